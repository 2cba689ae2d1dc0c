-- Spans that are lowered by whole units.
use Rattle.std.proofs.Common.{◌≡◌, ℕ, zero, suc, ◌*◌, ℤ, pos, neg_ℤ, ◌-ℤ◌, ◌*ℤ◌, ◌∙◌, refl, sym, ap, arith, rules}
use Rattle.std.specs.Prelude.{int_lt}
use Rattle.std.specs.Ordering.{int_eq}
use Rattle.std.proofs.lemmas.Int.{ints}
use Rattle.std.proofs.Math.IntN.{negsuc-*ℤ-pos, pos-*ℤ-negsuc}
use Rattle.fixed_span.specs.Span.{Ends, Holds, over}
use Rattle.fixed_span.specs.Verdict.{verdict}
use Rattle.fixed_span.specs.Lowered.{SpansAreLowered, lowered}
use Rattle.fixed_span.proofs.Signed.{*ℤ-+ℤ, +ℤ-*ℤ}

abbrev ends : ℤ → ℤ → Ends
ends lo hi = record { lo = lo; hi = hi }

same_ends : (a b c d : ℤ) → a ≡ c → b ≡ d → ends a b ≡ ends c d
same_ends a b c d low high = ap (λ x. ends x b) low ∙ ap (λ x. ends c x) high

same_lt : (by : ℕ) (a b : ℤ) → int_lt (a -ℤ pos by) (b -ℤ pos by) ≡ int_lt a b
same_lt by a b = search (rules, ints)

same_eq : (by : ℕ) (a b : ℤ) → int_eq (a -ℤ pos by) (b -ℤ pos by) ≡ int_eq a b
same_eq by a b = search (rules, ints)

verdicts_kept : (by : ℕ) (a b : Ends) → verdict (lowered by a) (lowered by b) ≡ verdict a b
verdicts_kept by a b =
    rw (same_lt by a.hi b.lo, same_lt by b.hi a.lo, same_eq by a.lo a.hi, same_eq by b.lo b.hi, same_eq by a.lo b.lo) refl

pub neg_times : (a d : ℕ) → neg_ℤ (pos a) *ℤ pos d ≡ neg_ℤ (pos (a * d))
neg_times zero d = omega (arith, ints)
neg_times (suc a) d = negsuc-*ℤ-pos a d

pub times_neg : (a d : ℕ) → pos a *ℤ neg_ℤ (pos d) ≡ neg_ℤ (pos (a * d))
times_neg a zero = omega (arith, ints)
times_neg a (suc d) = pos-*ℤ-negsuc a d

held_less : (units points : ℕ) (span : Ends) (x : ℤ) (denominator : ℕ) → Holds units span (over x denominator)
    → Holds units (lowered (points * units) span) (over (x -ℤ pos (points * denominator)) denominator)
held_less units points span x d h =
    let less = neg_ℤ (pos (points * units)) in
    let below = neg_ℤ (pos (points * d)) in
    let right = *ℤ-+ℤ (pos units) x below in
    let product : points * units * d ≡ units * (points * d) = omega arith in
    let same : less *ℤ pos d ≡ pos units *ℤ below = neg_times (points * units) d ∙ ap (λ n. neg_ℤ (pos n)) product ∙ sym (times_neg units (points * d)) in
    record {
      above_zero = h.above_zero;
      low = omega (arith, ints, h.low, right, same, +ℤ-*ℤ span.lo less (pos d));
      high = omega (arith, ints, h.high, right, same, +ℤ-*ℤ span.hi less (pos d));
    }

pub spans_are_lowered_lem : SpansAreLowered
spans_are_lowered_lem = record {
  by_none = λ span. same_ends _ _ _ _ (omega (arith, ints)) (omega (arith, ints));
  verdicts = verdicts_kept;
  widths = λ by most span. (λ h. omega (arith, ints, h), λ h. omega (arith, ints, h));
  sums = λ m n a b. same_ends _ _ _ _ (omega (arith, ints)) (omega (arith, ints));
  held = held_less;
}
