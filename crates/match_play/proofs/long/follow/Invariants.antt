use Rattle.std.proofs.Common.{length}
use Rattle.match_play.proofs.Cycles.{Following}
use Rattle.match_play.proofs.long.follow.Given as goal

abbrev pub invariant-loop-turn : goal.invariant-loop-turn
invariant-loop-turn g l =
    Following
    ((goal.Player-dyn g (l.fn.left.vtable, l.fn.left.value)).state l.fn.left.value)
    ((goal.Player-dyn g (l.fn.right.vtable, l.fn.right.value)).state l.fn.right.value)
    ((goal.Player-dyn g (l.left.vtable, l.left.value)).state l.left.value)
    ((goal.Player-dyn g (l.right.vtable, l.right.value)).state l.right.value)
    l.tally
    l.marks
    l.columns
    l.turn
    (length l.fn.marks)
