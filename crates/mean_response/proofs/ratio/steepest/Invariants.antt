use Rattle.std.proofs.Common.{◌≡◌, length}
use Rattle.mean_response.specs.Graph.{opponent_of}
use Rattle.mean_response.specs.Walks.{layers_of, best_at}
use Rattle.mean_response.proofs.Ratios.{IsSteep}
use Rattle.mean_response.proofs.ratio.steepest.Given as goal

abbrev pub invariant-loop-moves : goal.invariant-loop-moves
invariant-loop-moves l = record {
  rows : l.rows ≡ length (opponent_of l.graph).rows;
  top : l.top ≡ best_at (layers_of l.table.items) (length (opponent_of l.graph).rows) l.row;
  steep : IsSteep (layers_of l.table.items) (length (opponent_of l.graph).rows) l.row l.moves l.num l.den;
}
