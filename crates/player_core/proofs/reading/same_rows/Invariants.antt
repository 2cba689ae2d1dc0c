use Rattle.player_core.proofs.Rows.{SameSoFar}
use Rattle.player_core.proofs.reading.same_rows.Given as goal

abbrev pub invariant-loop-mark : goal.invariant-loop-mark
invariant-loop-mark g l =
    SameSoFar
    ((goal.Player-dyn g (l.initial.left.vtable, l.initial.left.value)).state l.initial.left.value)
    ((goal.Player-dyn g (l.initial.right.vtable, l.initial.right.value)).state l.initial.right.value)
    ((goal.Player-dyn g (l.left.vtable, l.left.value)).state l.left.value)
    ((goal.Player-dyn g (l.right.vtable, l.right.value)).state l.right.value)
    l.mark
    l.mark-end
