use Rattle.std.proofs.Common.{◌≡◌, ◌≤◌, ◌<◌, ℕ, length, slice_index, slice_index_or, Option, ℤ}
use Rattle.mean_response.specs.Graph.{opponent_of}
use Rattle.mean_response.specs.Raised.{IsRaised}
use Rattle.mean_response.proofs.potentials.potentials_of.Given as goal

abbrev pub invariant-loop-row : goal.invariant-loop-row
invariant-loop-row l = record {
  inside : l.row ≤ length (opponent_of l.graph).rows;
  size : length l.all.items ≡ l.row;
  each : (v : ℕ) (d : Option ℤ) → v < l.row → IsRaised (slice_index l.raised.items v) l.base (slice_index_or l.all.items v d);
}
