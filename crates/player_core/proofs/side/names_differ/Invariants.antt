use Rattle.std.proofs.Common.{map}
use Rattle.player_core.proofs.Loops.{NamesSoFar, DiffersBelow}
use Rattle.player_core.proofs.side.names_differ.Given as goal

abbrev pub invariant-loop-k : goal.invariant-loop-k
invariant-loop-k g l =
    NamesSoFar (map (λ p. (goal.Player-dyn g (p.vtable, p.value)).state p.value) l.players.items) l.k l.k-end

abbrev pub invariant-loop-j : goal.invariant-loop-j
invariant-loop-j g l =
    DiffersBelow (map (λ p. (goal.Player-dyn g (p.vtable, p.value)).state p.value) l.players.items) l.k l.j
