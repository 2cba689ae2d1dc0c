-- What numbers with an exponent and their spans stand for, and how they are rounded.
use Rattle.std.specs.Prelude.{ℕ, ◌+◌, ◌-◌, ◌*◌, ◌^◌, ◌<◌, ◌≤◌, ℤ, pos, neg_ℤ, ◌≤ℤ◌}
use Rattle.scaled_span.specs.declared.numbers.Scaled.{Scaled}
use Rattle.scaled_span.specs.declared.numbers.ScaledSpan.{ScaledSpan}
use Rattle.scaled_span.specs.Ratios.{Ratio, AtMost, IsClose, scaled}

abbrev pub value : Scaled → Ratio
value s = scaled s.m s.e

-- x lies in the span
pub record IsIn (s : ScaledSpan) (x : Ratio) : Type 0 where
  pub low : AtMost (value s.lo) x
  pub high : AtMost x (value s.hi)

-- s is x rounded down, by at most so many parts in 2^61 of x
pub record IsBelow (parts : ℕ) (s : Scaled) (x : Ratio) : Type 0 where
  pub below : AtMost (value s) x
  pub near : x.num * (2 ^ 61 - parts) * (value s).den ≤ (value s).num * x.den * 2 ^ 61

-- s is x rounded up, by at most so many parts in 2^61 of x
pub record IsAbove (parts : ℕ) (s : Scaled) (x : Ratio) : Type 0 where
  pub above : AtMost x (value s)
  pub near : (value s).num * x.den * 2 ^ 61 ≤ x.num * (2 ^ 61 + parts) * (value s).den

-- the lower end is at least the upper end less so many parts in 2^61 of it
pub record EndsAreClose (parts : ℕ) (s : ScaledSpan) : Type 0 where
  pub tight : IsClose (2 ^ 61) parts (value s.lo) (value s.hi)

-- an exponent lies between -k and k
pub record ExponentWithin (k : ℕ) (e : ℤ) : Type 0 where
  pub low : neg_ℤ (pos k) ≤ℤ e
  pub high : e ≤ℤ pos k

-- both exponents lie between -k and k
pub record ExponentsWithin (k : ℕ) (s : ScaledSpan) : Type 0 where
  pub lo : ExponentWithin k s.lo.e
  pub hi : ExponentWithin k s.hi.e

-- r is the greatest whole number that is at most k * x
pub record IsFloorOf (k : ℕ) (x : Ratio) (r : ℕ) : Type 0 where
  pub below : r * x.den ≤ k * x.num
  pub above : k * x.num < (r + 1) * x.den

-- r is the least whole number that is at least k * x, but at most k
pub record IsCappedCeiling (k : ℕ) (x : Ratio) (r : ℕ) : Type 0 where
  pub most : r ≤ k
  pub least : r * x.den < k * x.num + x.den
  pub enough : r < k → k * x.num ≤ r * x.den

-- ---- one end at a time

-- e lies between a and b
pub record IsBetween (a b e : ℤ) : Type 0 where
  pub low : a ≤ℤ e
  pub high : e ≤ℤ b

-- s is x rounded down, by at most n parts in u of x
pub record IsRoundedDown (u n : ℕ) (s : Scaled) (x : Ratio) : Type 0 where
  pub below : AtMost (value s) x
  pub close : IsClose u n (value s) x

-- s is x rounded up, by at most n parts in u of s
pub record IsRoundedUp (u n : ℕ) (s : Scaled) (x : Ratio) : Type 0 where
  pub above : AtMost x (value s)
  pub close : IsClose u n x (value s)
