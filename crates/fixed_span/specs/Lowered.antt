-- Spans that are lowered by whole units.
use Rattle.std.specs.Prelude.{ℕ, ◌≡◌, ◌↔◌, ◌+◌, ◌*◌, ℤ, pos, ◌-ℤ◌}
use Rattle.fixed_span.specs.Span.{Ends, Holds, IsWithin, add, over}
use Rattle.fixed_span.specs.Verdict.{verdict}

-- both ends less by so many units
abbrev pub lowered : ℕ → Ends → Ends
lowered by span = record { lo = span.lo -ℤ pos by; hi = span.hi -ℤ pos by }

-- the laws: spans that are lowered alike keep their verdict, and each its width; sums are lowered by the sum, and a span that is
-- lowered by whole points holds what it held, less these
pub record SpansAreLowered : Type 0 where
  pub by_none : (span : Ends) → lowered 0 span ≡ span
  pub verdicts : (by : ℕ) (a b : Ends) → verdict (lowered by a) (lowered by b) ≡ verdict a b
  pub widths : (by most : ℕ) (span : Ends) → IsWithin most (lowered by span) ↔ IsWithin most span
  pub sums : (m n : ℕ) (a b : Ends) → add (lowered m a) (lowered n b) ≡ lowered (m + n) (add a b)
  pub held : (units points : ℕ) (span : Ends) (x : ℤ) (denominator : ℕ) → Holds units span (over x denominator)
      → Holds units (lowered (points * units) span) (over (x -ℤ pos (points * denominator)) denominator)
