use Rattle.std.proofs.Common.{◌<◌, length}
use Rattle.mean_response.specs.Graph.{opponent_of}
use Rattle.mean_response.specs.Walks.{IsReached}
use Rattle.mean_response.proofs.table.forward.Given as goal

abbrev pub invariant-loop-move : goal.invariant-loop-move
invariant-loop-move l = record {
  inside : l.row < length (opponent_of l.graph).rows;
  reached : IsReached (opponent_of l.graph) l._move l.row;
}
