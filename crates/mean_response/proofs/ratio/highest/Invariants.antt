use Rattle.std.proofs.Common.{◌≡◌, length}
use Rattle.mean_response.specs.Graph.{opponent_of}
use Rattle.mean_response.specs.Walks.{layers_of}
use Rattle.mean_response.proofs.Ratios.{IsTop}
use Rattle.mean_response.proofs.ratio.highest.Given as goal

abbrev pub invariant-loop-row : goal.invariant-loop-row
invariant-loop-row l = record {
  rows : l.rows ≡ length (opponent_of l.graph).rows;
  top : IsTop (layers_of l.table.items) (length (opponent_of l.graph).rows) l.row l.at l.num l.den;
}
