-- The fields of lines are read from their texts.
use Rattle.std.proofs.Common.{◌≡◌, ◌≢◌, ℕ, ◌*◌, ◌^◌, ◌<◌, ◌≤◌, Bool, true, false, cond, eqb, not, List, [], ◌∷◌, ◌++◌, ℤ, ◌≤ℤ◌, Option, Some, None, refl, sym, ap, ◌∙◌, arith, inl, inr, ◌⊎◌}
use Rattle.std.specs.Prelude.{codes, int_lt, unsigned_abs}
use Rattle.std.specs.Fmt.{decimal}
use Rattle.std.specs.List.{list_all}
use Rattle.std.specs.Ordering.{int_eq}
use Rattle.std.specs.Str.{bytes_eq}
use Rattle.std.proofs.lemmas.Bool.Decides.{nat_tests, Decides-int_eq}
use Rattle.std.proofs.lemmas.Int.{ints}
use Rattle.std.proofs.lemmas.List.{append-nil}
use Rattle.std.proofs.lemmas.Slice.Eq.{bytes_eq-Decides}
use Rattle.history_model.specs.Name.{is_name, is_name_byte}
use Rattle.history_model.specs.Noise.{FlipRate}
use Rattle.texts.specs.Cuts.{lacks, CutsAreExact}
use Rattle.texts.specs.Numbers.{small, IsNoDigit, NumbersAreExact}
use Rattle.texts.specs.Signed.{signed_at, SignedPointsAreExact}
use Rattle.texts.specs.Forms.{IsField, AreFields}
use Rattle.texts.proofs.SignedLaws.{signed_field}
use Rattle.fixed_span.specs.Span.{Ends, point}
use Rattle.report_lines.specs.declared.line.Kind.{Kind}
use Rattle.report_lines.specs.declared.line.Kind.TheVariants as kinds
use Rattle.report_lines.specs.Fields.{end_text, score_text, rank_text, points_text, kind_word, noise_text, is_count, is_rank, is_amount, is_noise, a_name, a_total, a_rank, a_count, a_point, an_amount, a_payoff, a_kind, a_dilemma, a_noise}
use Rattle.report_lines.specs.Reading.{name_of, score_of, count_of, rank_of, points_of, amount_of, kind_of, noise_of}
use Rattle.report_lines.proofs.InRange.{both_true, count_few, amount_few, noise_few, IsTold, total_told, points_told}

-- the laws of the crates below
pub record Below : Type 0 where
  pub cuts : CutsAreExact
  pub numbers : NumbersAreExact
  pub points : SignedPointsAreExact

-- ---- fields

abbrev pub IsBar : ℕ → Type 0
IsBar b = (b ≡ 10) ⊎ (b ≡ 124)

pub no_digit : (b : ℕ) → IsBar b → IsNoDigit b
no_digit b h = grind arith

pub number_lacks : Below → (b n : ℕ) → IsBar b → n ≤ 2 * 10 ^ 12 → lacks b (decimal n) ≡ true
number_lacks l b n h few = l.numbers.digits b n (no_digit b h) (omega (arith, few))

pub small_again : Below → (n : ℕ) → n ≤ 10 ^ 12 → small (decimal n) ≡ Some n
small_again l n few = (l.numbers.small_numbers (decimal n) n).1 (refl, omega (arith, few))

byte_is_not : (b x : ℕ) → IsBar b → is_name_byte x ≡ true → eqb x b ≡ false
byte_is_not b x h e = grind (arith, nat_tests)

bytes_lack : (b : ℕ) (xs : List ℕ) → IsBar b → list_all is_name_byte xs ≡ true → lacks b xs ≡ true
bytes_lack b [] h e = refl
bytes_lack b (x ∷ xs) h e =
    let p = both_true (is_name_byte x) (list_all is_name_byte xs) e in
    rw (byte_is_not b x h p.0) (bytes_lack b xs h p.1)

pub name_lacks : (b : ℕ) (name : List ℕ) → IsBar b → is_name name ≡ true → lacks b name ≡ true
name_lacks b name h e = bytes_lack b name h (both_true _ _ (both_true _ _ e).0).1

pub name_again : (name : List ℕ) → is_name name ≡ true → name_of name ≡ Some name
name_again name h = rw h refl

pub lacks_either : (b : ℕ) (t : Bool) (xs ys : List ℕ) → lacks b xs ≡ true → lacks b ys ≡ true → lacks b (cond t xs ys) ≡ true
lacks_either b true xs ys h k = h
lacks_either b false xs ys h k = k

outside : (b : ℕ) → IsBar b → (b < 45) ⊎ (57 < b)
outside b h = grind arith

end_lacks : Below → (b : ℕ) (units : ℤ) → IsBar b → unsigned_abs units ≤ 10 ^ 37 → lacks b (end_text units) ≡ true
end_lacks l b units h few = l.points.digits b 12 units (outside b h) few

pub score_lacks : Below → (b : ℕ) (x : Ends) → IsBar b → IsTold x → lacks b (score_text x) ≡ true
score_lacks l b x h told =
    let dot : not (eqb 46 b) ≡ true = grind (arith, nat_tests) in
    let more : lacks b (46 ∷ 46 ∷ end_text x.hi) ≡ true = rw dot (end_lacks l b x.hi h told.hi) in
    let low = end_lacks l b x.lo h told.lo in
    lacks_either b (int_eq x.lo x.hi) (end_text x.lo) (end_text x.lo ++ (46 ∷ 46 ∷ end_text x.hi)) low (l.cuts.together b (end_text x.lo) (46 ∷ 46 ∷ end_text x.hi) low more)

end_again : Below → (units : ℤ) (rest : List ℕ) → unsigned_abs units ≤ 10 ^ 37 → signed_at 12 (end_text units ++ rest) ≡ Some (units, rest)
end_again l units rest few = (l.points.points 12 (end_text units ++ rest) units rest (omega arith) (omega arith)).1 (refl, few)

last_again : Below → (units : ℤ) → unsigned_abs units ≤ 10 ^ 37 → signed_at 12 (end_text units) ≡ Some (units, [])
last_again l units few = ap (signed_at 12) (sym (append-nil (end_text units))) ∙ end_again l units [] few

no_true : false ≡ true → ⊥
no_true e = absurd cc

below : (lo hi : ℤ) → false ≡ int_eq lo hi → lo ≤ℤ hi → int_lt lo hi ≡ true
below lo hi e ordered =
    let other : lo ≢ hi = λ same. no_true (e ∙ (Decides-int_eq lo hi).1 same) in
    grind (arith, ints)

by_test : Below → (lo hi : ℤ) (t : Bool) → t ≡ int_eq lo hi → lo ≤ℤ hi → unsigned_abs lo ≤ 10 ^ 37 → unsigned_abs hi ≤ 10 ^ 37
    → score_of (cond t (end_text lo) (end_text lo ++ (46 ∷ 46 ∷ end_text hi))) ≡ Some (record { lo = lo; hi = hi })
unfolding score_of
by_test l lo hi true e ordered low high =
    let same : lo ≡ hi = (Decides-int_eq lo hi).0 (sym e) in
    rw (last_again l lo low) (ap (λ (x : ℤ). Some (record { lo = lo; hi = x })) same)
by_test l lo hi false e ordered low high =
    let less = below lo hi e ordered in
    rw (end_again l lo (46 ∷ 46 ∷ end_text hi) low, last_again l hi high, less) refl

pub score_again : Below → (x : Ends) → IsTold x → score_of (score_text x) ≡ Some x
score_again l x told = by_test l x.lo x.hi (int_eq x.lo x.hi) refl told.ordered told.lo told.hi

pub count_lacks : Below → (b n : ℕ) → IsBar b → is_count n ≡ true → lacks b (decimal n) ≡ true
count_lacks l b n h few = number_lacks l b n h (omega (arith, count_few n few))

pub count_again : Below → (n : ℕ) → is_count n ≡ true → count_of (decimal n) ≡ Some n
unfolding count_of
count_again l n few = rw (small_again l n (omega (arith, count_few n few)), few) refl

-- a number is no word
word_is_no_number : Below → (n : ℕ) → is_count n ≡ true → bytes_eq (decimal n) (codes "undecided") ≡ true → ⊥
word_is_no_number l n few e =
    let same : decimal n ≡ codes "undecided" = (bytes_eq-Decides (decimal n) (codes "undecided")).0 e in
    let u : IsNoDigit 117 = grind arith in
    let lacked : lacks 117 (decimal n) ≡ true = l.numbers.digits 117 n u (omega (arith, count_few n few)) in
    no_true (ap (lacks 117) (sym same) ∙ lacked)

by_word : (t : Bool) (n : ℕ) → (t ≡ true → ⊥) → cond t (Some None) (Some (Some n)) ≡ Some (Some n)
by_word true n h = absurd (h refl)
by_word false n h = refl

pub rank_again : Below → (rank : Option ℕ) → is_rank rank ≡ true → rank_of (rank_text rank) ≡ Some rank
unfolding rank_of
rank_again l None h = refl
rank_again l (Some rank) h = rw (count_again l rank h) (by_word (bytes_eq (decimal rank) (codes "undecided")) rank (word_is_no_number l rank h))

pub rank_lacks : Below → (b : ℕ) (rank : Option ℕ) → IsBar b → is_rank rank ≡ true → lacks b (rank_text rank) ≡ true
rank_lacks l b None (inl e) h = rw e refl
rank_lacks l b None (inr e) h = rw e refl
rank_lacks l b (Some rank) bar h = count_lacks l b rank bar h

pub points_again : Below → (units : ℤ) → IsTold (point units) → points_of (points_text units) ≡ Some units
unfolding points_of
points_again l units told = rw (score_again l (point units) told) refl

-- ---- fields

pub name_field : IsField a_name
name_field = record { again = name_again; one_field = λ name h. name_lacks 124 name (inr refl) h; one_line = λ name h. name_lacks 10 name (inl refl) h }

pub count_field : Below → IsField a_count
count_field l = record { again = count_again l; one_field = λ n h. count_lacks l 124 n (inr refl) h; one_line = λ n h. count_lacks l 10 n (inl refl) h }

pub total_field : Below → IsField a_total
total_field l = record {
  again = λ x h. score_again l x (total_told x h);
  one_field = λ x h. score_lacks l 124 x (inr refl) (total_told x h);
  one_line = λ x h. score_lacks l 10 x (inl refl) (total_told x h);
}

pub rank_field : Below → IsField a_rank
rank_field l = record { again = rank_again l; one_field = λ x h. rank_lacks l 124 x (inr refl) h; one_line = λ x h. rank_lacks l 10 x (inl refl) h }

pub point_field : Below → IsField a_point
point_field l = record {
  again = λ x h. points_again l x (points_told x h);
  one_field = λ x h. score_lacks l 124 (point x) (inr refl) (points_told x h);
  one_line = λ x h. score_lacks l 10 (point x) (inl refl) (points_told x h);
}

amount_lacks : Below → (b n : ℕ) → IsNoDigit b → is_amount n ≡ true → lacks b (decimal n) ≡ true
amount_lacks l b n h few = l.numbers.digits b n h (omega (arith, amount_few n few))

amount_again : Below → (n : ℕ) → is_amount n ≡ true → amount_of (decimal n) ≡ Some n
unfolding amount_of
amount_again l n few = rw (small_again l n (omega (arith, amount_few n few)), few) refl

pub payoff_field : Below → IsField a_payoff
payoff_field l =
    let bar : IsNoDigit 124 = grind arith in
    let feed : IsNoDigit 10 = grind arith in
    let minus : IsNoDigit 45 = grind arith in
    signed_field an_amount (record { again = amount_again l; one_field = λ n h. amount_lacks l 124 n bar h; one_line = λ n h. amount_lacks l 10 n feed h }) (λ n h. amount_lacks l 45 n minus h)

kind_again : (k : Kind) → kind_of (kind_word k) ≡ Some k
unfolding kind_of
kind_again kinds.Match = refl
kind_again kinds.Tournament = refl
kind_again kinds.Drill = refl

kind_lacks : (b : ℕ) (k : Kind) → IsBar b → lacks b (kind_word k) ≡ true
kind_lacks b kinds.Match (inl e) = rw e refl
kind_lacks b kinds.Match (inr e) = rw e refl
kind_lacks b kinds.Tournament (inl e) = rw e refl
kind_lacks b kinds.Tournament (inr e) = rw e refl
kind_lacks b kinds.Drill (inl e) = rw e refl
kind_lacks b kinds.Drill (inr e) = rw e refl

pub kind_field : IsField a_kind
kind_field = record { again = λ k h. kind_again k; one_field = λ k h. kind_lacks 124 k (inr refl); one_line = λ k h. kind_lacks 10 k (inl refl) }

pub dilemma_fields : AreFields a_dilemma
dilemma_fields = record { again = λ x h. word_again x; one_line = λ x h. word_line x }
  where
    word_again : (x : Bool) → a_dilemma.read (a_dilemma.text x) ≡ Some x
    word_again true = refl
    word_again false = refl

    word_line : (x : Bool) → lacks 10 (a_dilemma.text x) ≡ true
    word_line true = refl
    word_line false = refl

noise_again : Below → (noise : FlipRate) → is_noise noise ≡ true → noise_of (noise_text noise) ≡ Some noise
unfolding noise_of
noise_again l noise h =
    let few = noise_few noise h in
    let bar : IsBar 124 = inr refl in
    let n = number_lacks l 124 noise.n bar (omega (arith, few.0)) in
    let e = number_lacks l 124 noise.e bar (omega (arith, few.1)) in
    rw (
      l.cuts.before_it 124 (decimal noise.n) (decimal noise.e) n,
      l.cuts.behind_it 124 (decimal noise.n) (decimal noise.e) n,
      small_again l noise.n (omega (arith, few.0)),
      l.cuts.before_none 124 (decimal noise.e) e,
      small_again l noise.e (omega (arith, few.1)),
      h,
    ) refl

noise_line : Below → (noise : FlipRate) → is_noise noise ≡ true → lacks 10 (noise_text noise) ≡ true
noise_line l noise h =
    let few = noise_few noise h in
    let feed : IsBar 10 = inl refl in
    l.cuts.together 10 (decimal noise.n) (124 ∷ decimal noise.e) (number_lacks l 10 noise.n feed (omega (arith, few.0))) (number_lacks l 10 noise.e feed (omega (arith, few.1)))

pub noise_fields : Below → AreFields a_noise
noise_fields l = record { again = noise_again l; one_line = noise_line l }
