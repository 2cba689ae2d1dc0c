use Rattle.std.proofs.Common.{map}
use Rattle.player_core.proofs.Loops.{TwinsSoFar}
use Rattle.player_core.proofs.side.all_twins.Given as goal

abbrev pub invariant-loop-k : goal.invariant-loop-k
invariant-loop-k g l =
    TwinsSoFar
    (map (λ p. (goal.Player-dyn g (p.vtable, p.value)).state p.value) l.initial.left.items)
    (map (λ p. (goal.Player-dyn g (p.vtable, p.value)).state p.value) l.initial.right.items)
    (map (λ p. (goal.Player-dyn g (p.vtable, p.value)).state p.value) l.left.items)
    (map (λ p. (goal.Player-dyn g (p.vtable, p.value)).state p.value) l.right.items)
    l.k
    l.k-end
