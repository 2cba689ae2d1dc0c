use Rattle.match_play.proofs.Playing.{Going}
use Rattle.match_play.proofs.turn_by_turn.go_on.Given as goal

abbrev pub invariant-loop-turn : goal.invariant-loop-turn
invariant-loop-turn g l =
    Going
    ((goal.Player-dyn g (l.fn.left.vtable, l.fn.left.value)).state l.fn.left.value)
    ((goal.Player-dyn g (l.fn.right.vtable, l.fn.right.value)).state l.fn.right.value)
    ((goal.Player-dyn g (l.left.vtable, l.left.value)).state l.left.value)
    ((goal.Player-dyn g (l.right.vtable, l.right.value)).state l.right.value)
    l.fn.counted
    l.tally
    l._turn
