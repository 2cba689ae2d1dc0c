use Rattle.std.proofs.Common.{◌≡◌, length}
use Rattle.mean_response.specs.Graph.{opponent_of, game_of}
use Rattle.mean_response.specs.Walks.{layers_of}
use Rattle.mean_response.proofs.Turning.{IsBack}
use Rattle.mean_response.proofs.lasso.walk_to.Given as goal

abbrev pub invariant-loop-i : goal.invariant-loop-i
invariant-loop-i l = record {
  rows : l.rows ≡ length (opponent_of l.graph).rows;
  back : IsBack (opponent_of l.graph) (game_of l.graph) (layers_of l.table.items) l.at l.i l.moves.items l.row;
}
