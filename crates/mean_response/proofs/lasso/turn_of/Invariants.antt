use Rattle.mean_response.specs.Graph.{opponent_of}
use Rattle.mean_response.proofs.Turning.{IsSeen}
use Rattle.mean_response.proofs.lasso.turn_of.Given as goal

abbrev pub invariant-loop-j : goal.invariant-loop-j
invariant-loop-j l = IsSeen (opponent_of l.graph) l.moves l.j l.seen.items l.row
