use Rattle.std.proofs.Common.{map}
use Rattle.round_robin.proofs.Telling.{ToldSoFar}
use Rattle.round_robin.proofs.sureness.sure_ones.Given as goal

abbrev pub invariant-loop-place : goal.invariant-loop-place
invariant-loop-place g l =
    ToldSoFar l.contestants l.place l.place-end l.sure
    (record {
      left = map (λ p. (goal.Player-dyn g (p.vtable, p.value)).state p.value) l.initial.bench.left.items;
      right = map (λ p. (goal.Player-dyn g (p.vtable, p.value)).state p.value) l.initial.bench.right.items;
    })
    (record {
      left = map (λ p. (goal.Player-dyn g (p.vtable, p.value)).state p.value) l.bench.left.items;
      right = map (λ p. (goal.Player-dyn g (p.vtable, p.value)).state p.value) l.bench.right.items;
    })
