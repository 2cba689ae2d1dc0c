use Rattle.std.proofs.Common.{◌≡◌, ◌<◌, ◌+◌, ℕ}
use Rattle.history_model.specs.declared.moves.Move.{Move}
use Rattle.history_model.specs.Mean.{step}
use Rattle.mean_response.specs.Graph.{opponent_of, game_of}
use Rattle.mean_response.specs.Walks.{layers_of, best_at, gain}
use Rattle.mean_response.proofs.lasso.before.Given as goal

abbrev pub invariant-loop-row : goal.invariant-loop-row
invariant-loop-row l = record {
  x : l.x ≡ best_at (layers_of l.table.items) (l.moves + 1) l.to;
  none : (v : ℕ) (m : Move) → v < l.row → step (opponent_of l.graph) v m ≡ l.to → 0 < best_at (layers_of l.table.items) l.moves v → l.x ≡ best_at (layers_of l.table.items) l.moves v + gain (opponent_of l.graph) (game_of l.graph) v m → ⊥;
}
