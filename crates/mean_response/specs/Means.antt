-- The greatest mean: its terms, its potentials, and what bounds and attains it.
use Rattle.std.specs.Prelude.{ℕ, ◌^◌, ◌≡◌, ◌<◌, ℤ, pos, neg_ℤ, ◌+ℤ◌, ◌-ℤ◌, ◌*ℤ◌, ◌≤ℤ◌, List, length, slice_index_or, Option, Some, None}
use Rattle.history_model.specs.declared.moves.Move.{Move}
use Rattle.history_model.specs.Game.{Payoffs, least, most, magnitude}
use Rattle.history_model.specs.Noise.{FlipRate, IsFlipRate}
use Rattle.history_model.specs.Automaton.{Automaton}
use Rattle.history_model.specs.Mean.{led}
use Rattle.strategy_trees.specs.Contest.{contest}
use Rattle.strategy_trees.specs.Bounds.{NoTreeExceeds}
use Rattle.strategy_trees.specs.Potentials.{AreAtMost}
use Rattle.strategy_trees.specs.Lassos.{led_points, IsLassoScore}

-- lowest terms: the denominator is above 0, and no whole number but 1 divides both
pub record AreLowest (num den : ℤ) : Type 0 where
  pub some : pos 1 ≤ℤ den
  pub lowest : (d : ℕ) (a b : ℤ) → num ≡ pos d *ℤ a → den ≡ pos d *ℤ b → d ≡ 1

-- num / den is a mean of payoffs, and den is at most the number of rows
pub record IsMean (them : Automaton) (game : Payoffs) (num den : ℤ) : Type 0 where
  pub low : (den *ℤ pos (least game)) ≤ℤ num
  pub high : num ≤ℤ (den *ℤ pos (most game))
  pub few : den ≤ℤ pos (length them.rows)

-- the potential that a list has at a row
abbrev pub potential_at : List (Option ℤ) → ℕ → Option ℤ
potential_at potentials row = slice_index_or potentials row None

-- den times the points of own moves from the start, less num for each move
abbrev pub surplus : Automaton → Payoffs → ℤ → ℤ → List Move → ℤ
surplus them game num den moves = den *ℤ pos (led_points them game them.start moves) -ℤ num *ℤ pos (length moves)

-- h is the greatest surplus of all own moves that lead from the start to a row
pub record IsGreatest (them : Automaton) (game : Payoffs) (num den : ℤ) (row : ℕ) (h : ℤ) : Type 0 where
  pub moves : List Move
  pub leads : led them them.start moves ≡ row
  pub attained : surplus them game num den moves ≡ h
  pub greatest : (others : List Move) → led them them.start others ≡ row → surplus them game num den others ≤ℤ h

-- a row has no potential where no own moves lead to it, and else the greatest surplus
abbrev pub IsPotential : Automaton → Payoffs → ℤ → ℤ → ℕ → Option ℤ → Type 0
IsPotential them game num den row None = (moves : List Move) → led them them.start moves ≡ row → ⊥
IsPotential them game num den row (Some h) = IsGreatest them game num den row h

-- so does each row
pub record AreGreatest (them : Automaton) (game : Payoffs) (num den : ℤ) (potential : ℕ → Option ℤ) : Type 0 where
  pub each : (row : ℕ) → row < length them.rows → IsPotential them game num den row (potential row)

-- every potential lies between -10^15 and 10^15
pub record AreInRange (potentials : List (Option ℤ)) : Type 0 where
  pub low : (row : ℕ) (h : ℤ) → potential_at potentials row ≡ Some h → neg_ℤ (pos (10 ^ 15)) ≤ℤ h
  pub high : (row : ℕ) (h : ℤ) → potential_at potentials row ≡ Some h → h ≤ℤ pos (10 ^ 15)

-- a chance of flips that is none
pub record IsStill (noise : FlipRate) : Type 0 where
  pub rate : IsFlipRate noise
  pub none : noise.n ≡ 0

-- in any number of turns, and where no move is flipped, den times what a tree expects is at most num for each turn and the greatest
-- potential
abbrev pub BoundsTrees : Automaton → Payoffs → ℤ → ℤ → (ℕ → Option ℤ) → Type 0
BoundsTrees them game num den potential =
    (own_noise noise : FlipRate) (n : ℕ) (most : ℤ) → IsStill own_noise → IsStill noise → AreAtMost (contest own_noise them noise game) potential most →
    NoTreeExceeds (contest own_noise them noise game) 0 n (magnitude den) (num *ℤ pos n +ℤ most)

-- in any number of turns the lasso scores num for each, over den, less a bounded number
abbrev pub LassoScores : Automaton → Payoffs → ℤ → ℤ → List Move → List Move → Type 0
LassoScores them game num den lead_in cycle = (n : ℕ) → IsLassoScore them game 0 n (magnitude den) num lead_in cycle
