-- Totals hold the true totals.
use Rattle.std.proofs.Common.{◌≡◌, ℕ, ◌*◌, ◌==◌, Bool, true, false, if◌then◌else◌, List, [], ◌∷◌, get_or, ℤ, pos, ◌*ℤ◌, refl, ◌∙◌, ap, subst, arith}
use Rattle.std.specs.List.{All}
use Rattle.std.proofs.lemmas.Int.{ints}
use Rattle.std.proofs.lemmas.Bool.Decides.{nat_tests}
use Rattle.std.proofs.lemmas.List.Elements.{All-head, All-tail}
use Rattle.std.proofs.Math.Nat.{mul-pos}
use Rattle.history_model.specs.Game.{Payoffs}
use Rattle.fixed_span.specs.Span.{Ends, Fraction, Holds, add, point, score_units}
use Rattle.fixed_span.proofs.Signed.{*ℤ-+ℤ, +ℤ-*ℤ, *ℤ_assoc, *ℤ-le}
use Rattle.result_lines.specs.declared.line.MatchLine.{MatchLine}
use Rattle.round_robin.specs.Contest.{Strategy, strategy_at}
use Rattle.round_robin.specs.Laws.{LinesHold}
use Rattle.result_lines.specs.Totals.{own_score, pairs_of, total_of}
use Rattle.round_robin.specs.Totals.{AreLines}
use Rattle.round_robin.specs.Truth.{HoldsExpected, TotalsHoldTrueTotals, expects_of, nothing, own_expected, plus, true_total}

-- ---- sums

-- (x * y) * z and x * (y * z), where y and z are denominators
over_both : (x : ℤ) (y z : ℕ) → (x *ℤ pos y) *ℤ pos z ≡ x *ℤ pos (y * z)
over_both x y z = *ℤ_assoc x (pos y) (pos z) ∙ ap (λ d. x *ℤ d) (omega (arith, ints))

over_turned : (x : ℤ) (y z : ℕ) → (x *ℤ pos z) *ℤ pos y ≡ x *ℤ pos (y * z)
over_turned x y z = *ℤ_assoc x (pos z) (pos y) ∙ ap (λ d. x *ℤ d) (omega (arith, ints))

pub plus_holds : (units : ℕ) (s t : Ends) (x y : Fraction) → Holds units s x → Holds units t y → Holds units (add s t) (plus x y)
plus_holds units s t x y h k =
    let p = x.denominator in
    let q = y.denominator in
    let right = *ℤ-+ℤ (pos units) (x.numerator *ℤ pos q) (y.numerator *ℤ pos p) in
    let first = *ℤ_assoc (pos units) x.numerator (pos q) in
    let second = *ℤ_assoc (pos units) y.numerator (pos p) in
    record {
      above_zero = mul-pos h.above_zero k.above_zero;
      low = omega (
        arith,
        ints,
        right,
        first,
        second,
        +ℤ-*ℤ s.lo t.lo (pos (p * q)),
        over_both s.lo p q,
        over_turned t.lo p q,
        *ℤ-le (s.lo *ℤ pos p) (pos units *ℤ x.numerator) q h.low,
        *ℤ-le (t.lo *ℤ pos q) (pos units *ℤ y.numerator) p k.low,
      );
      high = omega (
        arith,
        ints,
        right,
        first,
        second,
        +ℤ-*ℤ s.hi t.hi (pos (p * q)),
        over_both s.hi p q,
        over_turned t.hi p q,
        *ℤ-le (pos units *ℤ x.numerator) (s.hi *ℤ pos p) q h.high,
        *ℤ-le (pos units *ℤ y.numerator) (t.hi *ℤ pos q) p k.high,
      );
    }

holds_nothing : (units : ℕ) → Holds units (point (pos 0)) nothing
holds_nothing units = record { above_zero = omega arith; low = omega (arith, ints); high = omega (arith, ints) }

module _ (expects : ℕ → ℕ → Fraction) (i : ℕ) where
  own_by : (left right : Bool) (line : MatchLine) → (left ≡ true → line.left ≡ i) → (right ≡ true → line.right ≡ i) → HoldsExpected expects line
      → Holds score_units (if left then line.left_score else if right then line.right_score else point (pos 0))
      (if left then expects i line.right else if right then expects i line.left else nothing)
  own_by true right line here there h =
      let P : ℕ → Type 0 = λ j. Holds score_units line.left_score (expects j line.right) in subst P (here refl) h.left
  own_by false true line here there h =
      let P : ℕ → Type 0 = λ j. Holds score_units line.right_score (expects j line.left) in subst P (there refl) h.right
  own_by false false line here there h = holds_nothing score_units

  is_place : (n : ℕ) → (n == i) ≡ true → n ≡ i
  is_place n h = grind (arith, nat_tests)

  own_holds : (line : MatchLine) → HoldsExpected expects line
      → Holds score_units (own_score i line) (own_expected expects i (line.left, line.right))
  own_holds line h = own_by (line.left == i) (line.right == i) line (is_place line.left) (is_place line.right) h

  pub total_holds : (lines : List MatchLine) → All (HoldsExpected expects) lines
      → Holds score_units (total_of i lines) (true_total expects (pairs_of lines) i)
  total_holds [] h = holds_nothing score_units
  total_holds (line ∷ lines) h =
      let own = own_holds line (All-head (HoldsExpected expects) line lines h) in
      let rest = total_holds lines (All-tail (HoldsExpected expects) line lines h) in
      plus_holds score_units (own_score i line) (total_of i lines) (own_expected expects i (line.left, line.right)) (true_total expects (pairs_of lines) i) own rest

pub totals_hold : TotalsHoldTrueTotals
totals_hold expects lines i h = total_holds expects i lines h

-- ---- the lines of strategies

-- each line tells that its sides are valid
pub lines_expected : LinesHold → (strategies : List Strategy) (game : Payoffs) (n : ℕ) (pairs : List (ℕ × ℕ)) (lines : List MatchLine)
    → AreLines strategies game n pairs lines → All (HoldsExpected (expects_of strategies game n)) lines
lines_expected law strategies game n pairs lines made k d inside =
    let line = get_or lines k d in
    let a = strategy_at strategies line.left in
    let b = strategy_at strategies line.right in
    let here = made.each k d inside in
    let holds = law.line a.automaton a.noise b.automaton b.noise game n line here.sides here.is in
    record { left = holds.left; right = holds.right }
