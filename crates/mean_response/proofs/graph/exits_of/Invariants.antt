use Rattle.mean_response.specs.Graph.{AreExits}
use Rattle.mean_response.proofs.graph.exits_of.Given as goal

abbrev pub invariant-loop-row : goal.invariant-loop-row
invariant-loop-row l = AreExits l.grid l.game l.row l.all.items
