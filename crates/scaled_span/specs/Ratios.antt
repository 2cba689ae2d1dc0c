-- Fractions, and how near one is to another. Nothing is put into lowest terms.
use Rattle.std.specs.Prelude.{◌≡◌, ℕ, suc, ◌+◌, ◌-◌, ◌*◌, ◌^◌, ◌≤◌, ℤ, pos, negsuc}

-- num / den
pub record Ratio : Type 0 where
  pub num : ℕ
  pub den : ℕ

-- x ≤ y
pub record AtMost (x y : Ratio) : Type 0 where
  pub cross : x.num * y.den ≤ y.num * x.den

-- x = y
pub record Same (x y : Ratio) : Type 0 where
  pub cross : x.num * y.den ≡ y.num * x.den

-- x is at least y less n parts in u of y
pub record IsClose (u n : ℕ) (x y : Ratio) : Type 0 where
  pub close : y.num * (u - n) * x.den ≤ x.num * y.den * u

abbrev pub whole : ℕ → Ratio
whole n = record { num = n; den = 1 }

abbrev pub times : Ratio → Ratio → Ratio
times x y = record { num = x.num * y.num; den = x.den * y.den }

-- x / y
abbrev pub over : Ratio → Ratio → Ratio
over x y = record { num = x.num * y.den; den = x.den * y.num }

-- 1 + x
abbrev pub plus_one : Ratio → Ratio
plus_one x = record { num = x.num + x.den; den = x.den }

-- x / (1 + x)
abbrev pub share_of : Ratio → Ratio
share_of x = record { num = x.num; den = x.num + x.den }

-- how far a whole number lies above 0, and below 0
abbrev pub above_zero : ℤ → ℕ
above_zero (pos n) = n
above_zero (negsuc n) = 0

abbrev pub below_zero : ℤ → ℕ
below_zero (pos n) = 0
below_zero (negsuc n) = suc n

-- m * 2^e
abbrev pub scaled : ℕ → ℤ → Ratio
scaled m e = record { num = m * 2 ^ above_zero e; den = 2 ^ below_zero e }
