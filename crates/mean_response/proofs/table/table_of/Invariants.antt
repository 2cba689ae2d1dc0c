use Rattle.std.proofs.Common.{◌≡◌, ◌≤◌, ◌<◌, ◌+◌, ℕ, [], length, slice_index_or}
use Rattle.mean_response.specs.Graph.{opponent_of, game_of}
use Rattle.mean_response.specs.Walks.{IsLayer, layers_of}
use Rattle.mean_response.proofs.table.table_of.Given as goal

abbrev pub invariant-loop-moves : goal.invariant-loop-moves
invariant-loop-moves l = record {
  inside : l.moves ≤ length (opponent_of l.graph).rows;
  count : length l.layers.items ≡ l.moves + 1;
  size : length (layers_of l.layers.items) ≡ l.moves + 1;
  each : (k : ℕ) → k < l.moves + 1 → IsLayer (opponent_of l.graph) (game_of l.graph) k (slice_index_or (layers_of l.layers.items) k []);
}
