-- What a list of own moves scores, and a lasso in a number of turns.
use Rattle.std.specs.Prelude.{ℕ, zero, suc, ◌+◌, ◌-◌, ◌*◌, ◌≡◌, ℤ, pos, ◌+ℤ◌, ◌-ℤ◌, ◌*ℤ◌, ◌≤ℤ◌, List, [], ◌∷◌, length, Option}
use Rattle.history_model.specs.declared.moves.Move.{Move}
use Rattle.history_model.specs.Game.{Payoffs, pay, least, most}
use Rattle.history_model.specs.Automaton.{Automaton}
use Rattle.history_model.specs.Path.{sure_move}
use Rattle.history_model.specs.Mean.{ArePotentials, IsLasso, HasMean, led_score, step}

-- the points of own moves against a sure automaton from a row
abbrev pub led_points : Automaton → Payoffs → ℕ → List Move → ℕ
led_points b game row [] = 0
led_points b game row (move ∷ moves) = pay game move (sure_move b row) + led_points b game (step b row move) moves

-- the law: a score is the points, less the offset for each move
abbrev pub ScoresAreLowered : Type 0
ScoresAreLowered =
    (b : Automaton) (game : Payoffs) (offset row : ℕ) (moves : List Move) →
    led_score b game offset row moves ≡ pos (led_points b game row moves) -ℤ pos (offset * length moves)

-- potentials and lassos for num / den are those for num / den less the offset, where each payoff is less by it
pub record AreMeansLowered (b : Automaton) (game : Payoffs) (offset : ℕ) (num den : ℤ) : Type 0 where
  pub potentials : (potential : ℕ → Option ℤ) → ArePotentials b game 0 num den potential
      → ArePotentials b game offset (num -ℤ den *ℤ pos offset) den potential
  pub lassos : (lead_in cycle : List Move) → HasMean b game 0 lead_in cycle num den
      → HasMean b game offset lead_in cycle (num -ℤ den *ℤ pos offset) den

-- the law: they are
abbrev pub MeansAreLowered : Type 0
MeansAreLowered = (b : Automaton) (game : Payoffs) (offset : ℕ) (num den : ℤ) → AreMeansLowered b game offset num den

-- n moves along a lasso: its lead-in, and then its cycle again and again
abbrev pub lasso_moves : List Move → List Move → ℕ → List Move
lasso_moves rest cycle zero = []
lasso_moves [] [] (suc n) = []
lasso_moves [] (move ∷ moves) (suc n) = move ∷ lasso_moves moves (move ∷ moves) n
lasso_moves (move ∷ rest) cycle (suc n) = move ∷ lasso_moves rest cycle n

-- den times what n such moves score falls short of num for each by no more than den times the spread of the payoffs for each move of
-- the lasso itself
pub record IsLassoScore (b : Automaton) (game : Payoffs) (offset n den : ℕ) (num : ℤ) (lead_in cycle : List Move) : Type 0 where
  pub turns : length (lasso_moves lead_in cycle n) ≡ n
  pub score : (num *ℤ pos n) ≤ℤ ((pos den *ℤ led_score b game offset b.start (lasso_moves lead_in cycle n))
      +ℤ pos (den * (length lead_in + length cycle) * (most game - least game)))

-- the law: so does every lasso with the mean num / den
abbrev pub LassosScore : Type 0
LassosScore =
    (b : Automaton) (game : Payoffs) (offset n den : ℕ) (num : ℤ) (lead_in cycle : List Move) →
    IsLasso b lead_in cycle → HasMean b game offset lead_in cycle num (pos den) → IsLassoScore b game offset n den num lead_in cycle
