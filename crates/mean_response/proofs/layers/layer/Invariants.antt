use Rattle.std.proofs.Common.{◌≤◌, length}
use Rattle.mean_response.specs.Graph.{opponent_of, game_of}
use Rattle.mean_response.specs.Walks.{IsPart}
use Rattle.mean_response.proofs.layers.layer.Given as goal

abbrev pub invariant-loop-row : goal.invariant-loop-row
invariant-loop-row l = record { inside : l.row ≤ length (opponent_of l.graph).rows; part : IsPart (opponent_of l.graph) (game_of l.graph) l.moves l.below l.row l.above.items }
