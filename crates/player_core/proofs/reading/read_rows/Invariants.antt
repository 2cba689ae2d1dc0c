use Rattle.std.proofs.Common.{map}
use Rattle.history_model.specs.Automaton.{plain_row}
use Rattle.player_core.proofs.Rows.{ReadSoFar}
use Rattle.player_core.proofs.reading.read_rows.Given as goal

abbrev pub invariant-loop-mark : goal.invariant-loop-mark
invariant-loop-mark g l =
    ReadSoFar
    ((goal.Player-dyn g (l.initial.player.vtable, l.initial.player.value)).state l.initial.player.value)
    ((goal.Player-dyn g (l.player.vtable, l.player.value)).state l.player.value)
    (map plain_row l.rows.items)
    l.mark
    l.count
