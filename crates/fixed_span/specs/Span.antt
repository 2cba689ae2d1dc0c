-- Spans of whole numbers, and the fractions that they hold.
use Rattle.std.specs.Prelude.{ℕ, ◌^◌, ◌<◌, ℤ, pos, neg_ℤ, ◌+ℤ◌, ◌*ℤ◌, ◌≤ℤ◌}

-- the two ends of a span, in units
pub record Ends : Type 0 where
  pub lo : ℤ
  pub hi : ℤ

-- a fraction
pub record Fraction : Type 0 where
  pub numerator : ℤ
  pub denominator : ℕ

abbrev pub over : ℤ → ℕ → Fraction
over numerator denominator = record { numerator = numerator; denominator = denominator }

abbrev pub point : ℤ → Ends
point v = record { lo = v; hi = v }

-- the parts of a unit: 10^12 for scores, 10^9 for chances
abbrev pub score_units : ℕ
score_units = 1000000000000

abbrev pub chance_units : ℕ
chance_units = 1000000000

-- the span holds the fraction, in units of which so many make 1; the denominator is above 0
pub record Holds (units : ℕ) (span : Ends) (x : Fraction) : Type 0 where
  pub above_zero : 0 < x.denominator
  pub low : (span.lo *ℤ pos x.denominator) ≤ℤ (pos units *ℤ x.numerator)
  pub high : (pos units *ℤ x.numerator) ≤ℤ (span.hi *ℤ pos x.denominator)

-- at most so many units wide
abbrev pub IsWithin : ℕ → Ends → Type 0
IsWithin width span = span.hi ≤ℤ (span.lo +ℤ pos width)

-- the sums of the ends
abbrev pub add : Ends → Ends → Ends
add a b = record { lo = a.lo +ℤ b.lo; hi = a.hi +ℤ b.hi }

-- both ends lie between -10^37 and 10^37
pub record IsSmall (span : Ends) : Type 0 where
  pub low : neg_ℤ (pos (10 ^ 37)) ≤ℤ span.lo
  pub high : span.hi ≤ℤ pos (10 ^ 37)
