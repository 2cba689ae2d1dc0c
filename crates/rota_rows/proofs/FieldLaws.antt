-- The fields of lines are read from their texts.
use Rattle.std.proofs.Common.{◌≡◌, ℕ, ◌*◌, ◌^◌, ◌<◌, ◌≤◌, Bool, true, false, eqb, leb, ltb, ◌&&◌, List, [], ◌∷◌, ◌++◌, ℤ, Some, refl, sym, ap, ◌∙◌, arith, inl, inr, ◌⊎◌}
use Rattle.std.specs.Prelude.{unsigned_abs}
use Rattle.std.specs.Fmt.{decimal}
use Rattle.std.specs.List.{list_all}
use Rattle.std.proofs.lemmas.Bool.Decides.{nat_tests}
use Rattle.std.proofs.lemmas.List.{append-nil}
use Rattle.history_model.specs.Name.{is_name, is_name_byte}
use Rattle.texts.specs.Cuts.{lacks, CutsAreExact}
use Rattle.texts.specs.Numbers.{small, IsNoDigit, NumbersAreExact}
use Rattle.texts.specs.Signed.{signed_at, SignedPointsAreExact}
use Rattle.texts.specs.Forms.{IsField}
use Rattle.rota_rows.specs.Fields.{a_count, a_mark, a_name, a_score, are_plays, count_of, end_text, is_count, is_mark, is_score, mark_of, name_of, plays_of, score_of, some_plays}

-- the laws of the crates below
pub record Below : Type 0 where
  pub cuts : CutsAreExact
  pub numbers : NumbersAreExact
  pub points : SignedPointsAreExact

pub both_true : (a b : Bool) → (a && b) ≡ true → (a ≡ true) × (b ≡ true)
both_true true b h = (refl, h)
both_true false b h = absurd cc

pub leb_is : (a b : ℕ) → leb a b ≡ true → a ≤ b
leb_is a b h = grind (arith, nat_tests)

pub ltb_is : (a b : ℕ) → ltb a b ≡ true → a < b
ltb_is a b h = grind (arith, nat_tests)

abbrev pub IsBar : ℕ → Type 0
IsBar b = (b ≡ 10) ⊎ (b ≡ 124)

pub no_digit : (b : ℕ) → IsBar b → IsNoDigit b
no_digit b h = grind arith

pub number_lacks : Below → (b n : ℕ) → IsBar b → n ≤ 2 * 10 ^ 12 → lacks b (decimal n) ≡ true
number_lacks l b n h few = l.numbers.digits b n (no_digit b h) (omega (arith, few))

pub small_again : Below → (n : ℕ) → n ≤ 10 ^ 12 → small (decimal n) ≡ Some n
small_again l n few = (l.numbers.small_numbers (decimal n) n).1 (refl, omega (arith, few))

-- ---- names

byte_is_not : (b x : ℕ) → IsBar b → is_name_byte x ≡ true → eqb x b ≡ false
byte_is_not b x h e = grind (arith, nat_tests)

bytes_lack : (b : ℕ) (xs : List ℕ) → IsBar b → list_all is_name_byte xs ≡ true → lacks b xs ≡ true
bytes_lack b [] h e = refl
bytes_lack b (x ∷ xs) h e =
    let p = both_true (is_name_byte x) (list_all is_name_byte xs) e in
    rw (byte_is_not b x h p.0) (bytes_lack b xs h p.1)

pub name_lacks : (b : ℕ) (name : List ℕ) → IsBar b → is_name name ≡ true → lacks b name ≡ true
name_lacks b name h e = bytes_lack b name h (both_true _ _ (both_true _ _ e).0).1

pub name_again : (name : List ℕ) → is_name name ≡ true → name_of name ≡ Some name
name_again name h = rw h refl

pub name_field : IsField a_name
name_field = record { again = name_again; one_field = λ name h. name_lacks 124 name (inr refl) h; one_line = λ name h. name_lacks 10 name (inl refl) h }

-- ---- numbers

pub count_few : (n : ℕ) → is_count n ≡ true → n ≤ 10 ^ 12
count_few n h = grind (arith, nat_tests)

pub count_lacks : Below → (b n : ℕ) → IsBar b → is_count n ≡ true → lacks b (decimal n) ≡ true
count_lacks l b n h few = number_lacks l b n h (omega (arith, count_few n few))

pub count_again : Below → (n : ℕ) → is_count n ≡ true → count_of (decimal n) ≡ Some n
unfolding count_of
count_again l n few = rw (small_again l n (count_few n few), few) refl

pub count_field : Below → IsField a_count
count_field l = record { again = count_again l; one_field = λ n h. count_lacks l 124 n (inr refl) h; one_line = λ n h. count_lacks l 10 n (inl refl) h }

mark_few : (n : ℕ) → is_mark n ≡ true → n ≤ 10 ^ 12
mark_few n h = omega (arith, ltb_is n 512 h)

mark_again : Below → (n : ℕ) → is_mark n ≡ true → mark_of (decimal n) ≡ Some n
unfolding mark_of
mark_again l n few = rw (small_again l n (mark_few n few), few) refl

pub mark_field : Below → IsField a_mark
mark_field l = record {
  again = mark_again l;
  one_field = λ n h. number_lacks l 124 n (inr refl) (omega (arith, mark_few n h));
  one_line = λ n h. number_lacks l 10 n (inl refl) (omega (arith, mark_few n h));
}

plays_few : (n : ℕ) → are_plays n ≡ true → n ≤ 10 ^ 12
plays_few n h = leb_is n (10 ^ 12) h

plays_again : Below → (n : ℕ) → are_plays n ≡ true → plays_of (decimal n) ≡ Some n
unfolding plays_of
plays_again l n few = rw (small_again l n (plays_few n few), few) refl

pub plays_field : Below → IsField some_plays
plays_field l = record {
  again = plays_again l;
  one_field = λ n h. number_lacks l 124 n (inr refl) (omega (arith, plays_few n h));
  one_line = λ n h. number_lacks l 10 n (inl refl) (omega (arith, plays_few n h));
}

-- ---- scores

outside : (b : ℕ) → IsBar b → (b < 45) ⊎ (57 < b)
outside b h = grind arith

pub end_lacks : Below → (b : ℕ) (units : ℤ) → IsBar b → unsigned_abs units ≤ 10 ^ 37 → lacks b (end_text units) ≡ true
end_lacks l b units h few = l.points.digits b 12 units (outside b h) few

pub end_again : Below → (units : ℤ) (rest : List ℕ) → unsigned_abs units ≤ 10 ^ 37 → signed_at 12 (end_text units ++ rest) ≡ Some (units, rest)
end_again l units rest few = (l.points.points 12 (end_text units ++ rest) units rest (omega arith) (omega arith)).1 (refl, few)

pub last_again : Below → (units : ℤ) → unsigned_abs units ≤ 10 ^ 37 → signed_at 12 (end_text units) ≡ Some (units, [])
last_again l units few = ap (signed_at 12) (sym (append-nil (end_text units))) ∙ end_again l units [] few

pub score_few : (units : ℤ) → is_score units ≡ true → unsigned_abs units ≤ 10 ^ 37
score_few units h = leb_is (unsigned_abs units) (10 ^ 37) h

score_again : Below → (units : ℤ) → is_score units ≡ true → score_of (end_text units) ≡ Some units
unfolding score_of
score_again l units h = rw (last_again l units (score_few units h)) refl

pub score_field : Below → IsField a_score
score_field l = record {
  again = score_again l;
  one_field = λ x h. end_lacks l 124 x (inr refl) (score_few x h);
  one_line = λ x h. end_lacks l 10 x (inl refl) (score_few x h);
}
