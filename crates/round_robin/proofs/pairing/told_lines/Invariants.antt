use Rattle.std.proofs.Common.{map}
use Rattle.round_robin.proofs.Contesting.{ArePlayed}
use Rattle.round_robin.proofs.pairing.told_lines.Given as goal

abbrev pub invariant-loop-pair : goal.invariant-loop-pair
invariant-loop-pair g l =
    ArePlayed l.contestants l.game l.turns l.pairs l.pair-index l.lines.items
    (map (λ p. (goal.Player-dyn g (p.vtable, p.value)).state p.value) l.initial.bench.left.items)
    (map (λ p. (goal.Player-dyn g (p.vtable, p.value)).state p.value) l.initial.bench.right.items)
    (map (λ p. (goal.Player-dyn g (p.vtable, p.value)).state p.value) l.bench.left.items)
    (map (λ p. (goal.Player-dyn g (p.vtable, p.value)).state p.value) l.bench.right.items)
