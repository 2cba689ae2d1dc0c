use Rattle.std.proofs.Common.{◌+◌, ◌*◌, ◌≤◌}
use Rattle.strategy_trees.specs.Contest.{rows}
use Rattle.best_turns.specs.Meeting.{contest_of}
use Rattle.best_turns.specs.Rounded.{HasLayer, AreFound}
use Rattle.best_turns.proofs.induction.add_turn.Given as goal

abbrev pub invariant-loop-row : goal.invariant-loop-row
invariant-loop-row l = record {
  inside : l.row ≤ rows (contest_of l.prepared);
  layer : HasLayer (contest_of l.prepared) (l.t + 1) l.row l.above;
  found : AreFound (contest_of l.prepared) (l.t * rows (contest_of l.prepared) + l.row) l.found;
}
