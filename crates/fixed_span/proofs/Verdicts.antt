-- The verdict of two spans is true of the numbers that they hold.
use Rattle.std.proofs.Common.{ℕ, ◌+◌, ◌*◌, ◌≡◌, ◌≤◌, ◌<◌, ℤ, pos, ◌+ℤ◌, ◌*ℤ◌, ◌≤ℤ◌, ◌<ℤ◌, Bool, true, false, cond, ◌&&◌, refl, sym, ap, ◌∙◌, arith, rules}
use Rattle.std.specs.Prelude.{int_lt}
use Rattle.std.specs.Ordering.{int_eq}
use Rattle.std.proofs.lemmas.Int.{ints}
use Rattle.std.proofs.lemmas.Bool.Decides.{Decides-int_eq}
use Rattle.std.proofs.Math.Nat.{mul-le-mul, le_of_mul-le-mul_right}
use borrow.Author.Differences.{up, down}
use Rattle.texts.proofs.CutLaws.{both_true}
use Rattle.fixed_span.specs.declared.ordering.Verdict.TheVariants.{Less, Greater, Level, Undecided}
use Rattle.fixed_span.specs.Span.{Ends, Fraction, Holds}
use Rattle.fixed_span.specs.Verdict.{is_level, IsTrueOf, VerdictsAreTrue}
use Rattle.fixed_span.proofs.Signed.{+ℤ-*ℤ, *ℤ_assoc, *ℤ-le, *ℤ-lt_back}

less_is : (a b : ℤ) → int_lt a b ≡ true → a <ℤ b
less_is a b h = search rules

eq_is : (a b : ℤ) → int_eq a b ≡ true → a ≡ b
eq_is a b h = (Decides-int_eq a b).0 h

-- x * y and y * x, over a factor
turned : (units d : ℕ) (x : ℤ) → (pos units *ℤ x) *ℤ pos d ≡ (x *ℤ pos d) *ℤ pos units
turned units d x = let c : (pos units *ℤ x) *ℤ pos d ≡ pos units *ℤ (x *ℤ pos d) = *ℤ_assoc (pos units) x (pos d) in omega (arith, ints, c)

-- what lies below the one span's end and above the other's
apart : (units p q : ℕ) (u l x y : ℤ) → 0 < units → 0 < p → 0 < q → u <ℤ l → (pos units *ℤ x) ≤ℤ (u *ℤ pos p) → (l *ℤ pos q) ≤ℤ (pos units *ℤ y) → (x *ℤ pos q) <ℤ (y *ℤ pos p)
apart units p q u l x y pu pp pq h k m =
    let one : 1 * 1 ≤ p * q = mul-le-mul pp pq in
    let first = *ℤ-le (pos units *ℤ x) (u *ℤ pos p) q k in
    let second = *ℤ-le (l *ℤ pos q) (pos units *ℤ y) p m in
    let up_end : (u *ℤ pos p) *ℤ pos q ≡ u *ℤ pos (p * q) = *ℤ_assoc u (pos p) (pos q) ∙ ap (λ z. u *ℤ z) (omega (arith, ints)) in
    let low_end : (l *ℤ pos q) *ℤ pos p ≡ l *ℤ pos (p * q) = *ℤ_assoc l (pos q) (pos p) ∙ ap (λ z. l *ℤ z) (omega (arith, ints)) in
    let gap = *ℤ-le (u +ℤ pos 1) l (p * q) (omega (arith, ints, h)) in
    let spread = +ℤ-*ℤ u (pos 1) (pos (p * q)) in
    *ℤ-lt_back (x *ℤ pos q) (y *ℤ pos p) units (omega (arith, ints, one, first, second, up_end, low_end, gap, spread, turned units q x, turned units p y))

*ℤ-le_back : (a b : ℤ) (q : ℕ) → 0 < q → (a *ℤ pos q) ≤ℤ (b *ℤ pos q) → a ≤ℤ b
*ℤ-le_back a b q p h = let k : (up a + down b) * q ≤ (up b + down a) * q = omega (arith, ints) in omega (arith, ints, plain (up a + down b) (up b + down a) q p k)
  where
    plain : (a b q : ℕ) → 0 < q → a * q ≤ b * q → a ≤ b
    plain a b q h e = le_of_mul-le-mul_right e h

touching : (units p q : ℕ) (v x y : ℤ) → 0 < units → (pos units *ℤ x) ≤ℤ (v *ℤ pos p) → (v *ℤ pos q) ≤ℤ (pos units *ℤ y) → (x *ℤ pos q) ≤ℤ (y *ℤ pos p)
touching units p q v x y pu k m =
    let first = *ℤ-le (pos units *ℤ x) (v *ℤ pos p) q k in
    let second = *ℤ-le (v *ℤ pos q) (pos units *ℤ y) p m in
    let up_end : (v *ℤ pos p) *ℤ pos q ≡ v *ℤ pos (p * q) = *ℤ_assoc v (pos p) (pos q) ∙ ap (λ z. v *ℤ z) (omega (arith, ints)) in
    let low_end : (v *ℤ pos q) *ℤ pos p ≡ v *ℤ pos (p * q) = *ℤ_assoc v (pos q) (pos p) ∙ ap (λ z. v *ℤ z) (omega (arith, ints)) in
    *ℤ-le_back (x *ℤ pos q) (y *ℤ pos p) units pu (omega (arith, ints, first, second, up_end, low_end, turned units q x, turned units p y))

module _ (units : ℕ) (a b : Ends) (x y : Fraction) (pu : 0 < units) (h : Holds units a x) (k : Holds units b y) where
  by_level : (t : Bool) → t ≡ is_level a b → IsTrueOf (cond t Level Undecided) x y
  by_level false e = tt
  by_level true e =
      let all = both_true (int_eq a.lo a.hi && int_eq b.lo b.hi) (int_eq a.lo b.lo) (sym e) in
      let points = both_true (int_eq a.lo a.hi) (int_eq b.lo b.hi) all.0 in
      let first : a.lo ≡ a.hi = eq_is a.lo a.hi points.0 in
      let second : b.lo ≡ b.hi = eq_is b.lo b.hi points.1 in
      let same : a.lo ≡ b.lo = eq_is a.lo b.lo all.1 in
      let high : (pos units *ℤ x.numerator) ≤ℤ (a.lo *ℤ pos x.denominator) = rw first h.high in
      let low : (a.lo *ℤ pos y.denominator) ≤ℤ (pos units *ℤ y.numerator) = rw same k.low in
      let other_high : (pos units *ℤ y.numerator) ≤ℤ (a.lo *ℤ pos y.denominator) = rw (same ∙ second) k.high in
      let up_to = touching units x.denominator y.denominator a.lo x.numerator y.numerator pu high low in
      let down_to = touching units y.denominator x.denominator a.lo y.numerator x.numerator pu other_high h.low in
      omega (arith, ints, up_to, down_to)

  by_greater : (t : Bool) → t ≡ int_lt b.hi a.lo → IsTrueOf (cond t Greater (cond (is_level a b) Level Undecided)) x y
  by_greater true e = apart units y.denominator x.denominator b.hi a.lo y.numerator x.numerator pu k.above_zero h.above_zero (less_is b.hi a.lo (sym e)) k.high h.low
  by_greater false e = by_level (is_level a b) refl

  by_less : (t : Bool) → t ≡ int_lt a.hi b.lo → IsTrueOf (cond t Less (cond (int_lt b.hi a.lo) Greater (cond (is_level a b) Level Undecided))) x y
  by_less true e = apart units x.denominator y.denominator a.hi b.lo x.numerator y.numerator pu h.above_zero k.above_zero (less_is a.hi b.lo (sym e)) h.high k.low
  by_less false e = by_greater (int_lt b.hi a.lo) refl

pub verdicts_are_true_lem : VerdictsAreTrue
verdicts_are_true_lem units a b x y pu h k = by_less units a b x y pu h k (int_lt a.hi b.lo) refl
