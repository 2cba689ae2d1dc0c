use Rattle.std.proofs.Common.{◌≡◌, ◌<◌, ◌*◌, ◌%◌, ℕ}
use Rattle.mean_response.proofs.ratio.lowest.Given as goal

abbrev pub invariant-loop-divisor : goal.invariant-loop-divisor
invariant-loop-divisor l = (k : ℕ) → 0 < k → k < l.divisor → (l.num * k) % l.den ≡ 0 → ⊥
