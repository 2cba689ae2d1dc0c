-- The parts of a point in which a chain counts.
use Rattle.std.specs.Prelude.{ℕ, ◌+◌, ◌*◌, ◌/◌, ◌^◌, ◌≡◌, ◌≤◌, max}
use Rattle.history_model.specs.Game.{Payoffs, most}

-- the most that a turn pays, or 1
abbrev pub top : Payoffs → ℕ
top game = max 1 (most game)

-- the finest parts in which all sums of the turns stay within the room
pub record IsScale (game : Payoffs) (turns room scale : ℕ) : Type 0 where
  pub exact : scale ≡ room / (turns * top game)
  pub fits : turns * (top game * scale) ≤ room
  pub fine : room ≤ scale * 10 ^ 10 + 10 ^ 10
