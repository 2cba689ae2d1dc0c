-- A walk of R moves, and two places in it with one row.
use Rattle.std.specs.Prelude.{ℕ, ◌+◌, ◌≡◌, ◌≤◌, ◌<◌, List, length, take}
use Rattle.history_model.specs.declared.moves.Move.{Move}
use Rattle.history_model.specs.Game.{Payoffs}
use Rattle.history_model.specs.Automaton.{Automaton}
use Rattle.history_model.specs.Mean.{led}
use Rattle.strategy_trees.specs.Lassos.{led_points}
use Rattle.mean_response.specs.Walks.{best_at}

-- R moves from the start to a row, that make its number in the last layer
pub record IsFull (them : Automaton) (game : Payoffs) (ls : List (List ℕ)) (at : ℕ) (ms : List Move) : Type 0 where
  pub size : length ms ≡ length them.rows
  pub leads : led them them.start ms ≡ at
  pub scores : led_points them game them.start ms + 1 ≡ best_at ls (length them.rows) at

-- two places of a walk at which it stands at one row
pub record IsTurn (them : Automaton) (ms : List Move) (first second : ℕ) : Type 0 where
  pub order : first < second
  pub inside : second ≤ length ms
  pub same : led them them.start (take first ms) ≡ led them them.start (take second ms)
