use Rattle.std.proofs.Common.{◌≡◌, length}
use Rattle.mean_response.specs.Graph.{opponent_of}
use Rattle.mean_response.specs.Walks.{layers_of}
use Rattle.mean_response.proofs.Heights.{IsHigh}
use Rattle.mean_response.proofs.potentials.height.Given as goal

abbrev pub invariant-loop-moves : goal.invariant-loop-moves
invariant-loop-moves l = record {
  rows : l.rows ≡ length (opponent_of l.graph).rows;
  high : IsHigh (layers_of l.table.items) (length (opponent_of l.graph).rows) l.num l.den l.row l.moves l.most;
}
