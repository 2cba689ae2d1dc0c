use Rattle.player_core.proofs.Rows.{SureSoFar}
use Rattle.player_core.proofs.reading.is_sure.Given as goal

abbrev pub invariant-loop-mark : goal.invariant-loop-mark
invariant-loop-mark g l =
    SureSoFar
    ((goal.Player-dyn g (l.initial.player.vtable, l.initial.player.value)).state l.initial.player.value)
    ((goal.Player-dyn g (l.player.vtable, l.player.value)).state l.player.value)
    l.mark
    l.rows
    l.den
