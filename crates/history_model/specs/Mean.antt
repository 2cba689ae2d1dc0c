-- Potentials and lassos: what bounds and what attains the mean score against a sure automaton, in any number of turns.
use Rattle.std.specs.Prelude.{ℕ, ◌≡◌, ◌≢◌, ℤ, pos, ◌+ℤ◌, ◌-ℤ◌, ◌*ℤ◌, ◌≤ℤ◌, List, [], ◌∷◌, length, Option, Some, None}
use Rattle.history_model.specs.declared.moves.Move.{Move}
use Rattle.history_model.specs.Game.{Payoffs, pay}
use Rattle.history_model.specs.Automaton.{Automaton, next_row}
use Rattle.history_model.specs.Path.{sure_move}

-- the own payoff of a move against a sure automaton at a row, less the offset
abbrev pub step_pay : Automaton → Payoffs → ℕ → ℕ → Move → ℤ
step_pay b game offset row move = pos (pay game move (sure_move b row)) -ℤ pos offset

-- the automaton's row after the move
abbrev pub step : Automaton → ℕ → Move → ℕ
step b row move = next_row b row (record { mine = sure_move b row; theirs = move })

-- where a list of own moves leads from a row, and what it scores
abbrev pub led : Automaton → ℕ → List Move → ℕ
led b row [] = row
led b row (move ∷ moves) = led b (step b row move) moves

abbrev pub led_score : Automaton → Payoffs → ℕ → ℕ → List Move → ℤ
led_score b game offset row [] = pos 0
led_score b game offset row (move ∷ moves) = step_pay b game offset row move +ℤ led_score b game offset (step b row move) moves

-- h is at least the potential before the move, with den times the payoff, less num
abbrev pub StepsUp : Option ℤ → ℤ → Type 0
StepsUp None least = ⊥
StepsUp (Some h) least = least ≤ℤ h

-- potentials for num / den: the start has one; where a row has one, each move leads to a row with one that is high enough
pub record ArePotentials (b : Automaton) (game : Payoffs) (offset : ℕ) (num den : ℤ) (potential : ℕ → Option ℤ) : Type 0 where
  pub started : potential b.start ≢ None
  pub steps : (row : ℕ) (h : ℤ) (move : Move) → potential row ≡ Some h
      → StepsUp (potential (step b row move)) ((h +ℤ den *ℤ step_pay b game offset row move) -ℤ num)

-- a lasso: from the start the path leads to a row from which the cycle, which isn't empty, leads back to it
pub record IsLasso (b : Automaton) (lead_in cycle : List Move) : Type 0 where
  pub some : cycle ≢ []
  pub returns : led b (led b b.start lead_in) cycle ≡ led b b.start lead_in

-- its mean is num / den: den times the score of the cycle is num times its length
abbrev pub HasMean : Automaton → Payoffs → ℕ → List Move → List Move → ℤ → ℤ → Type 0
HasMean b game offset lead_in cycle num den =
    den *ℤ led_score b game offset (led b b.start lead_in) cycle ≡ num *ℤ pos (length cycle)
