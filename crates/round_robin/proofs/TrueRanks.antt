-- A rank that isn't undecided is the true rank.
use Rattle.std.proofs.Common.{◌≡◌, ℕ, zero, suc, ◌+◌, ◌<◌, Bool, true, false, cond, ◌||◌, if◌then◌else◌, List, [], ◌∷◌, ◌++◌, length, map, take, drop, get_or, ℤ, pos, ◌*ℤ◌, ◌<ℤ◌, refl, sym, ◌∙◌, ap, subst, add-one, arith, rules}
use Rattle.std.specs.Prelude.{count_by, int_lt}
use Rattle.std.specs.List.{AllZip}
use Rattle.std.proofs.lemmas.Int.{ints}
use Rattle.std.proofs.lemmas.List.Sums.{sum_by-cons}
use Rattle.fixed_span.specs.declared.ordering.Verdict.{Verdict}
use Rattle.fixed_span.specs.declared.ordering.Verdict.TheVariants as verdicts
use Rattle.fixed_span.specs.Span.{Ends, Fraction, Holds}
use Rattle.fixed_span.specs.Verdict.{IsTrueOf, VerdictsAreTrue, verdict}
use Rattle.result_lines.specs.declared.ranking.Rank.TheVariants.{At, Undecided}
use Rattle.result_lines.specs.Ranks.{greater_among, is_greater, is_undecided, others, span_at, undecided_among}
use Rattle.round_robin.specs.Truth.{RanksAreTrue, is_less, nothing}

less_is : (a b : ℤ) → a <ℤ b → int_lt a b ≡ true
less_is a b h = search (rules, ints)

not_less : (a b : ℤ) → b <ℤ a → int_lt a b ≡ false
not_less a b h = search (rules, ints)

not_itself : (a : ℤ) → int_lt a a ≡ false
not_itself a = search (rules, ints)

neither : (a b : Bool) → (a || b) ≡ false → (a ≡ false) × (b ≡ false)
neither false b h = (refl, h)
neither true b h = absurd (cc)

-- the first one counts or not, and then the others
count_on : {X : Type 0} (p : X → Bool) (x : X) (xs : List X) → count_by p (x ∷ xs) ≡ cond (p x) 1 0 + count_by p xs
count_on p x xs = sum_by-cons (λ y. cond (p y) 1 0) x xs

-- two lists whose first ones count alike
count_alike : {X Y : Type 0} (p : X → Bool) (q : Y → Bool) (x : X) (xs : List X) (y : Y) (ys : List Y) → p x ≡ q y → count_by p xs ≡ count_by q ys
    → count_by p (x ∷ xs) ≡ count_by q (y ∷ ys)
count_alike p q x xs y ys first rest =
    count_on p x xs ∙ ap (λ b. cond b 1 0 + count_by p xs) first ∙ ap (λ n. cond (q y) 1 0 + n) rest ∙ sym (count_on q y ys)

-- a verdict that isn't undecided tells whether the other fraction is greater
same_test : (v : Verdict) (x y : Fraction) → is_undecided v ≡ false → IsTrueOf v y x → is_greater v ≡ is_less x y
same_test verdicts.Less x y known true_of = sym (not_less _ _ true_of)
same_test verdicts.Greater x y known true_of = sym (less_is _ _ true_of)
same_test verdicts.Level x y known true_of =
    sym (let e : x.numerator *ℤ pos y.denominator ≡ y.numerator *ℤ pos x.denominator = sym true_of in rw e (not_itself (y.numerator *ℤ pos x.denominator)))
same_test verdicts.Undecided x y known true_of = absurd (cc)

module _ (law : VerdictsAreTrue) (units : ℕ) (some : 0 < units) (own : Ends) (x : Fraction) (held : Holds units own x) where
  test_at : (span : Ends) (y : Fraction) → Holds units span y → is_undecided (verdict span own) ≡ false
      → is_greater (verdict span own) ≡ is_less x y
  test_at span y h known = same_test (verdict span own) x y known (law units span own y x some h held)

  -- none of them is undecided with the own span
  all_agree : (spans : List Ends) (ys : List Fraction) → AllZip (Holds units) spans ys → undecided_among spans own ≡ false
      → greater_among spans own ≡ count_by (λ y. is_less x y) ys
  all_agree [] [] h known = refl
  all_agree [] (y ∷ ys) h known = absurd h
  all_agree (s ∷ ss) [] h known = absurd h
  all_agree (s ∷ ss) (y ∷ ys) h known =
      let split = neither _ _ known in
      count_alike (λ other. is_greater (verdict other own)) (λ z. is_less x z) s ss y ys (test_at s y h.0 split.0) (all_agree ss ys h.1 split.1)

  -- all but the one at a place, whose fraction isn't greater than x
  but_one : (spans : List Ends) (ys : List Fraction) (i : ℕ) → i < length spans → AllZip (Holds units) spans ys
      → is_less x (get_or ys i nothing) ≡ false → undecided_among (take i spans ++ drop (suc i) spans) own ≡ false
      → greater_among (take i spans ++ drop (suc i) spans) own ≡ count_by (λ y. is_less x y) ys
  but_one [] ys i inside h same known = absurd (omega (arith, inside))
  but_one (s ∷ ss) [] i inside h same known = absurd h
  but_one (s ∷ ss) (y ∷ ys) zero inside h same known =
      let number : Bool → ℕ = λ b. cond b 1 0 in
      let none : number (is_less x y) ≡ 0 = ap number same in
      omega (arith, all_agree ss ys h.1 known, count_on (λ z. is_less x z) y ys, none)
  but_one (s ∷ ss) (y ∷ ys) (suc i) inside h same known =
      let split = neither _ _ known in
      count_alike (λ other. is_greater (verdict other own)) (λ z. is_less x z) s (take i ss ++ drop (suc i) ss) y ys (test_at s y h.0 split.0)
      (but_one ss ys i (omega (arith, inside)) h.1 same split.1)

-- the fraction that the span at a place holds
held_at : (units : ℕ) (spans : List Ends) (ys : List Fraction) (i : ℕ) → i < length spans → AllZip (Holds units) spans ys
    → Holds units (span_at spans i) (get_or ys i nothing)
held_at units [] ys i inside h = absurd (omega (arith, inside))
held_at units (s ∷ ss) [] i inside h = absurd h
held_at units (s ∷ ss) (y ∷ ys) zero inside h = h.0
held_at units (s ∷ ss) (y ∷ ys) (suc i) inside h = held_at units ss ys i (omega (arith, inside)) h.1

known_rank : (undecided : Bool) (n k : ℕ) → (if undecided then Undecided else At n) ≡ At k → (undecided ≡ false) × (n ≡ k)
known_rank true n k h = absurd (cc)
known_rank false n k h = (refl, cc)

pub ranks_are : VerdictsAreTrue → RanksAreTrue
ranks_are law units spans totals i k some inside held ranked =
    let own = span_at spans i in
    let x = get_or totals i nothing in
    let here = held_at units spans totals i inside held in
    let known = known_rank (undecided_among (others spans i) own) (1 + greater_among (others spans i) own) k ranked in
    let same : others spans i ≡ take i spans ++ drop (suc i) spans = ap (λ n. take i spans ++ drop n spans) (add-one i) in
    let P : List Ends → Type 0 = λ ss. undecided_among ss own ≡ false in
    let counted = but_one law units some own x here spans totals i inside held (not_itself (x.numerator *ℤ pos x.denominator)) (subst P same known.0) in
    ap (λ n. 1 + n) (sym counted ∙ ap (λ ss. greater_among ss own) (sym same)) ∙ known.1

-- spans and fractions that are made of the same places
pub held_places : (units : ℕ) (f : ℕ → Ends) (g : ℕ → Fraction) → ((i : ℕ) → Holds units (f i) (g i)) → (places : List ℕ)
    → AllZip (Holds units) (map f places) (map g places)
held_places units f g h [] = tt
held_places units f g h (i ∷ is) = (h i, held_places units f g h is)
