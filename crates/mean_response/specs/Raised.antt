-- A potential from its height.
use Rattle.std.specs.Prelude.{ℕ, ◌≡◌, ◌<◌, ℤ, pos, ◌-ℤ◌, Option, Some, None}

-- a row without a potential has the height 0, and else what its potential exceeds -base by
abbrev pub IsRaised : ℕ → ℕ → Option ℤ → Type 0
IsRaised height base None = height ≡ 0
IsRaised height base (Some h) = (0 < height) × (h ≡ pos height -ℤ pos base)
