-- What a best response in a number of turns says.
use Rattle.std.specs.Prelude.{ℕ, suc, ◌+◌, ◌*◌, ◌≡◌, ◌≤◌, ◌<◌, ◌↔◌, ℤ, pos, ◌≤ℤ◌, List, ◌∷◌, length, slice_index_or}
use Rattle.history_model.specs.declared.moves.Move.{Move}
use Rattle.history_model.specs.declared.moves.Move.TheVariants.{C, D}
use Rattle.history_model.specs.Game.{least, most}
use Rattle.fixed_span.specs.Span.{Ends, score_units}
use Rattle.strategy_trees.specs.Contest.{Contest, rows}
use Rattle.strategy_trees.specs.Lassos.{led_points}
use Rattle.strategy_trees.specs.Cells.{cell_at, move_at}

-- a number lies between what the least and what the greatest payoff give in t turns
pub record IsPaid (c : Contest) (t : ℕ) (x : ℤ) : Type 0 where
  pub low : pos (t * least c.game * score_units) ≤ℤ x
  pub high : x ≤ℤ pos (t * most c.game * score_units)

-- a table of n turns: the number of t turns left at a row stands at (t - 1) * rows + row, and can be paid
pub record AreCells (c : Contest) (n : ℕ) (cells : List ℤ) : Type 0 where
  pub size : length cells ≡ n * rows c
  pub each : (t row : ℕ) → t < n → row < rows c → IsPaid c (suc t) (slice_index_or cells (t * rows c + row) (pos 0))

-- the span from the start with n turns left
pub record IsValue (c : Contest) (n : ℕ) (lowers uppers : List ℤ) (value : Ends) : Type 0 where
  pub lo : value.lo ≡ pos (cell_at lowers (rows c) n c.opponent.start)
  pub hi : value.hi ≡ pos (cell_at uppers (rows c) n c.opponent.start)

-- no lower exceeds its upper, which exceeds it by a unit for each turn at most
pub record AreNarrow (c : Contest) (n : ℕ) (lowers uppers : List ℤ) : Type 0 where
  pub ordered : (t row : ℕ) → t < n → row < rows c → cell_at lowers (rows c) (suc t) row ≤ cell_at uppers (rows c) (suc t) row
  pub width : (t row : ℕ) → t < n → row < rows c → cell_at uppers (rows c) (suc t) row ≤ cell_at lowers (rows c) (suc t) row + suc t

-- x is what the best list of t own moves from a row is paid, in units
pub record IsBestPaid (c : Contest) (t row x : ℕ) : Type 0 where
  pub moves : List Move
  pub size : length moves ≡ t
  pub attained : x ≡ led_points c.opponent c.game row moves * score_units
  pub greatest : (others : List Move) → length others ≡ t → led_points c.opponent c.game row others * score_units ≤ x

-- t own moves that begin with C at a row and are paid at least so many points
pub record IsReachedByC (c : Contest) (t row points : ℕ) : Type 0 where
  pub later : List Move
  pub size : suc (length later) ≡ t
  pub enough : points ≤ led_points c.opponent c.game row (C ∷ later)

-- the best list of t own moves that begins with C is paid at least as much from a row as the best that begins with D
abbrev pub AttainsAsMuch : Contest → ℕ → ℕ → Type 0
AttainsAsMuch c t row = (later : List Move) → suc (length later) ≡ t → IsReachedByC c t row (led_points c.opponent c.game row (D ∷ later))

-- each number is a point, what the best moves are paid, and the plan's move is C exactly where C attains at least as much as D
pub record IsExact (c : Contest) (n : ℕ) (moves : List Move) (lowers uppers : List ℤ) : Type 0 where
  pub points : (t row : ℕ) → t < n → row < rows c → cell_at lowers (rows c) (suc t) row ≡ cell_at uppers (rows c) (suc t) row
  pub best : (t row : ℕ) → t < n → row < rows c → IsBestPaid c (suc t) row (cell_at lowers (rows c) (suc t) row)
  pub ties : (t row : ℕ) → t < n → row < rows c → (move_at moves (rows c) (suc t) row ≡ C) ↔ AttainsAsMuch c (suc t) row
