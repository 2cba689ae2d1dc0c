use Rattle.std.proofs.Common.{◌≡◌, ◌≤◌, ◌<◌, ◌^◌, ℕ, length, slice_index}
use Rattle.mean_response.specs.Graph.{opponent_of}
use Rattle.mean_response.specs.Walks.{layers_of, IsHeight}
use Rattle.mean_response.proofs.potentials.heights.Given as goal

abbrev pub invariant-loop-row : goal.invariant-loop-row
invariant-loop-row l = record {
  inside : l.row ≤ length (opponent_of l.graph).rows;
  size : length l.all.items ≡ l.row;
  each : (v : ℕ) → v < l.row → IsHeight (layers_of l.table.items) (length (opponent_of l.graph).rows) l.num l.den v (slice_index l.all.items v);
  few : (v : ℕ) → v < l.row → slice_index l.all.items v ≤ 10 ^ 13;
}
