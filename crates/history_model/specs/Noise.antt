-- Noise: the chance n/e with which a player's move is flipped.
use Rattle.std.specs.Prelude.{ℕ, ◌*◌, ◌≤◌}

pub record FlipRate : Type 0 where
  pub n : ℕ
  pub e : ℕ

-- a chance of at most one half, over a denominator from 1 to 1000
pub record IsFlipRate (noise : FlipRate) : Type 0 where
  pub some : 1 ≤ noise.e
  pub few : noise.e ≤ 1000
  pub half : 2 * noise.n ≤ noise.e

-- no move is flipped
abbrev pub no_noise : FlipRate
no_noise = record { n = 0; e = 1 }
