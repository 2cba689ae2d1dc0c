use Rattle.std.proofs.Common.{map}
use Rattle.player_core.proofs.Loops.{NoneTakes}
use Rattle.player_core.proofs.bench.Bench.place.Given as goal

abbrev pub invariant-loop-k : goal.invariant-loop-k
invariant-loop-k g l =
    NoneTakes (map (λ p. (goal.Player-dyn g (p.vtable, p.value)).state p.value) l.self.left.items) l.sheet l.k l.k-end
