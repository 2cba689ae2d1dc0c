-- What meetings add to fitness, and the ranges in which that lies.
use Rattle.std.specs.Prelude.{ℕ, zero, suc, ◌+◌, ◌-◌, ◌*◌, ◌^◌, ◌<◌, ◌≤◌}
use Rattle.scaled_span.specs.Ratios.{Ratio, whole, times, plus_one}
use Rattle.moran_chain.specs.Moran.{odds}
use Rattle.moran_chain.specs.declared.ranges.Range.{Range}
use Rattle.moran_chain.specs.declared.ranges.Ranges.{Ranges}

-- four fractions over one denominator, each to be taken `unit` times
pub record Worths : Type 0 where
  pub a : ℕ
  pub b : ℕ
  pub c : ℕ
  pub d : ℕ
  pub den : ℕ
  pub unit : ℕ

-- what the meetings of an individual of the first and of the second type add up to, where j of m are of the first
abbrev pub first_worth : Worths → ℕ → ℕ → ℕ
first_worth v m j = v.a * (j - 1) + v.b * (m - j)

abbrev pub second_worth : Worths → ℕ → ℕ → ℕ
second_worth v m j = v.c * j + v.d * (m - j - 1)

-- x * unit / den lies in the range
pub record Lies (r : Range) (x den unit : ℕ) : Type 0 where
  pub low : r.lo * den ≤ x * unit
  pub high : x * unit ≤ r.hi * den

pub record AllLie (t : Ranges) (v : Worths) : Type 0 where
  pub a : Lies t.a v.a v.den v.unit
  pub b : Lies t.b v.b v.den v.unit
  pub c : Lies t.c v.c v.den v.unit
  pub d : Lies t.d v.d v.den v.unit
  pub some : 0 < v.den
  pub unit : 0 < v.unit

-- the lower end is at least the upper end less k parts in 2^61 of it
pub record IsNarrow (k : ℕ) (r : Range) : Type 0 where
  pub known : r.hi * (2 ^ 61 - k) ≤ r.lo * 2 ^ 61

pub record AllNarrow (k : ℕ) (t : Ranges) : Type 0 where
  pub a : IsNarrow k t.a
  pub b : IsNarrow k t.b
  pub c : IsNarrow k t.c
  pub d : IsNarrow k t.d

-- 1 + o (j+1) * (1 + o (j+2) * .. (1 + o (j+n))), with o j = g j / f j
abbrev pub nested : (ℕ → ℕ) → (ℕ → ℕ) → ℕ → ℕ → Ratio
nested f g j zero = whole 1
nested f g j (suc n) = plus_one (times (odds f g (suc j)) (nested f g (suc j) n))

-- o (j+1) * o (j+2) * .. o (j+1+n)
abbrev pub stretch : (ℕ → ℕ) → (ℕ → ℕ) → ℕ → ℕ → Ratio
stretch f g j zero = odds f g (suc j)
stretch f g j (suc n) = times (odds f g (suc j)) (stretch f g (suc j) n)
