use Rattle.std.proofs.Common.{map}
use Rattle.player_core.proofs.Loops.{NotesSoFar}
use Rattle.player_core.proofs.side.read_notes.Given as goal

abbrev pub invariant-loop-k : goal.invariant-loop-k
invariant-loop-k g l =
    NotesSoFar
    (map (λ p. (goal.Player-dyn g (p.vtable, p.value)).state p.value) l.initial.players.items)
    (map (λ p. (goal.Player-dyn g (p.vtable, p.value)).state p.value) l.players.items)
    l.notes.items
    l.k
    l.k-end
