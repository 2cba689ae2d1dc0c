-- Numbers with a sign are read exactly from their texts.
use Rattle.std.proofs.Common.{◌≡◌, ℕ, zero, suc, ◌/◌, ◌%◌, ◌^◌, ◌<◌, ◌≤◌, Bool, true, false, cond, eqb, not, List, [], ◌∷◌, ◌++◌, length, ℤ, pos, negsuc, Some, refl, sym, ap, subst, ◌∙◌, arith, inl, ◌⊎◌}
use Rattle.std.specs.Prelude.{unsigned_abs, int_lt}
use Rattle.std.specs.Fmt.{decimal}
use Rattle.std.proofs.lemmas.Bool.{eqb-true}
use Rattle.std.proofs.lemmas.Bool.Decides.{nat_tests}
use Rattle.std.proofs.lemmas.Int.{ints}
use Rattle.std.proofs.lemmas.List.{length-append}
use Rattle.texts.specs.Cuts.{lacks}
use Rattle.texts.specs.Forms.{Form, IsField}
use Rattle.texts.specs.Numbers.{◌>>=◌, zero_padded, point_text, point_at}
use Rattle.texts.specs.Signed.{signed_text, has_minus, without_minus, with_sign, signed, signed_at, SignedPointsAreExact}
use Rattle.texts.proofs.NumberLaws.{bind_some, some_is}
use Rattle.texts.proofs.PointLaws.{point_takes, point_again, point_lacks}

-- what comes of a text without `-`, and of one with it
no_minus : (t : List ℕ) → has_minus t ≡ false → without_minus t ≡ t
no_minus [] h = refl
no_minus (c ∷ cs) h = rw h refl

lacks_minus : (t rest : List ℕ) → 0 < length t → lacks 45 t ≡ true → has_minus (t ++ rest) ≡ false
lacks_minus [] rest some h = absurd (omega (arith, some))
lacks_minus (c ∷ cs) rest some h = grind (arith, nat_tests)

lacks_front : (t : List ℕ) → lacks 45 t ≡ true → has_minus t ≡ false
lacks_front [] h = refl
lacks_front (c ∷ cs) h = grind (arith, nat_tests)

positive_text : (text : ℕ → List ℕ) (n : ℕ) → signed_text text (pos n) ≡ text n
positive_text text n = let test : int_lt (pos n) (pos 0) ≡ false = grind (arith, ints, nat_tests) in rw test refl

negative : (n : ℕ) → with_sign true (suc n) ≡ Some (negsuc n)
negative n = let test : eqb (suc n) 0 ≡ false = grind (arith, nat_tests) in rw test refl

-- ---- forms

pub signed_field : (f : Form ℕ) → IsField f → ((n : ℕ) → f.is_in n ≡ true → lacks 45 (f.text n) ≡ true) → IsField (signed f)
signed_field f h none = record { again = again; one_field = lacked 124 refl h.one_field; one_line = lacked 10 refl h.one_line }
  where
    again : (z : ℤ) → f.is_in (unsigned_abs z) ≡ true → (signed f).read ((signed f).text z) ≡ Some z
    again (pos n) e =
        let front = lacks_front (f.text n) (none n e) in
        rw (positive_text f.text n, front, no_minus (f.text n) front, h.again n e) refl
    again (negsuc n) e = rw (h.again (suc n) e) (negative n)

    lacked : (b : ℕ) → not (eqb 45 b) ≡ true → ((n : ℕ) → f.is_in n ≡ true → lacks b (f.text n) ≡ true) → (z : ℤ) → f.is_in (unsigned_abs z) ≡ true → lacks b ((signed f).text z) ≡ true
    lacked b other each (pos n) e = rw (positive_text f.text n) (each n e)
    lacked b other each (negsuc n) e = rw other (each (suc n) e)

-- ---- points

point_some : (d n : ℕ) → 0 < length (point_text d n)
point_some d n =
    let part : List ℕ = 46 ∷ zero_padded d (decimal (n % 10 ^ d)) in
    omega (arith, length-append (decimal (n / 10 ^ d)) part)

pub signed_lacks : (b d : ℕ) (z : ℤ) → b < 45 ⊎ 57 < b → unsigned_abs z ≤ 10 ^ 37 → lacks b (signed_text (point_text d) z) ≡ true
signed_lacks b d (pos n) h few =
    let wider : b < 46 ⊎ 57 < b = grind arith in
    rw (positive_text (point_text d) n) (point_lacks b d n wider few)
signed_lacks b d (negsuc n) h few =
    let wider : b < 46 ⊎ 57 < b = grind arith in
    let other : not (eqb 45 b) ≡ true = grind (arith, nat_tests) in
    rw other (point_lacks b d (suc n) wider few)

pub signed_again : (d : ℕ) (z : ℤ) (rest : List ℕ) → 0 < d → d ≤ 37 → unsigned_abs z ≤ 10 ^ 37 → signed_at d (signed_text (point_text d) z ++ rest) ≡ Some (z, rest)
unfolding signed_at
signed_again d (pos n) rest some few h =
    let low : 45 < 46 = omega arith in
    let front = lacks_minus (point_text d n) rest (point_some d n) (point_lacks 45 d n (inl low) h) in
    rw (positive_text (point_text d) n, front, no_minus (point_text d n ++ rest) front, point_again d n rest some few h) refl
signed_again d (negsuc n) rest some few h = rw (point_again d (suc n) rest some few h, negative n) refl

abbrev IsSigned : ℕ → List ℕ → ℤ → List ℕ → Type 0
IsSigned d text z rest = (text ≡ signed_text (point_text d) z ++ rest) × (unsigned_abs z ≤ 10 ^ 37)

positive_takes : (d n : ℕ) (text rest : List ℕ) (z : ℤ) → text ≡ point_text d n ++ rest → n ≤ 10 ^ 37 → with_sign false n ≡ Some z → IsSigned d text z rest
positive_takes d n text rest z is few e = subst (λ (x : ℤ). IsSigned d text x rest) (some_is (pos n) z e) (rw (positive_text (point_text d) n) is, few)

negative_takes : (d n : ℕ) (text rest : List ℕ) (z : ℤ) → text ≡ point_text d n ++ rest → n ≤ 10 ^ 37 → with_sign true n ≡ Some z → IsSigned d (45 ∷ text) z rest
negative_takes d zero text rest z is few e = absurd cc
negative_takes d (suc n) text rest z is few e =
    subst (λ (x : ℤ). IsSigned d (45 ∷ text) x rest) (some_is (negsuc n) z (sym (negative n) ∙ e)) (ap (λ (t : List ℕ). 45 ∷ t) is, few)

front_takes : (d n c : ℕ) (cs rest : List ℕ) (z : ℤ) (minus : Bool) → minus ≡ eqb c 45 → cond minus cs (c ∷ cs) ≡ point_text d n ++ rest → n ≤ 10 ^ 37 → with_sign minus n ≡ Some z
    → IsSigned d (c ∷ cs) z rest
front_takes d n c cs rest z true t is few e =
    let same : c ≡ 45 = eqb-true c 45 (sym t) in
    rw same (negative_takes d n cs rest z is few e)
front_takes d n c cs rest z false t is few e = positive_takes d n (c ∷ cs) rest z is few e

sign_takes : (d n : ℕ) (text rest : List ℕ) (z : ℤ) → without_minus text ≡ point_text d n ++ rest → n ≤ 10 ^ 37 → with_sign (has_minus text) n ≡ Some z → IsSigned d text z rest
sign_takes d n [] rest z is few e = positive_takes d n [] rest z is few e
sign_takes d n (c ∷ cs) rest z is few e = front_takes d n c cs rest z (eqb c 45) refl is few e

pub signed_takes : (d : ℕ) (text : List ℕ) (z : ℤ) (rest : List ℕ) → 0 < d → signed_at d text ≡ Some (z, rest) → IsSigned d text z rest
unfolding signed_at
signed_takes d text z rest some e =
    let a = bind_some (point_at d (without_minus text)) (λ x. with_sign (has_minus text) x.0 >>= λ units. Some (units, x.1)) (z, rest) e in
    let b = bind_some (with_sign (has_minus text) a.0.0) (λ units. Some (units, a.0.1)) (z, rest) a.2 in
    let t = point_takes d (without_minus text) a.0.0 a.0.1 some a.1 in
    let made = sign_takes d a.0.0 text a.0.1 b.0 t.0 t.1 b.1 in
    subst (λ (x : ℤ × List ℕ). IsSigned d text x.0 x.1) (some_is (b.0, a.0.1) (z, rest) b.2) made

pub signed_points_are_exact_lem : SignedPointsAreExact
signed_points_are_exact_lem = record {
  points = λ decimals text units rest some few. (signed_takes decimals text units rest some, λ is. ap (signed_at decimals) is.0 ∙ signed_again decimals units rest some few is.1);
  digits = signed_lacks;
}
