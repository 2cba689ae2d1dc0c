use Rattle.std.proofs.Common.{◌*◌, ◌≤◌, ◌≡◌, length}
use Rattle.strategy_trees.specs.Contest.{rows}
use Rattle.best_turns.specs.Meeting.{contest_of}
use Rattle.best_turns.specs.Rounded.{HasLayer, AreFound}
use Rattle.best_turns.proofs.induction.find.Given as goal

abbrev pub invariant-loop-t : goal.invariant-loop-t
invariant-loop-t l = record {
  inside : l.t ≤ l.turns;
  below : HasLayer (contest_of l.prepared) l.t (rows (contest_of l.prepared)) l.below;
  high : length l.above.uppers.items ≡ rows (contest_of l.prepared);
  low : length l.above.lowers.items ≡ rows (contest_of l.prepared);
  found : AreFound (contest_of l.prepared) (l.t * rows (contest_of l.prepared)) l.found;
}
