use Rattle.std.proofs.Common.{map}
use Rattle.player_core.proofs.Loops.{KindsSoFar}
use Rattle.player_core.proofs.side.have_kinds.Given as goal

abbrev pub invariant-loop-k : goal.invariant-loop-k
invariant-loop-k g l =
    KindsSoFar (map (λ p. (goal.Player-dyn g (p.vtable, p.value)).state p.value) l.players.items) l.k l.k-end
