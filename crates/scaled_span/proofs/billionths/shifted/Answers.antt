use Rattle.std.proofs.Common.{arith, ℕ, ◌/◌, ◌^◌, ◌<◌, ◌≤◌}
use Rattle.std.proofs.lemmas.Nat.{pow_pos, div_below}
use Rattle.std.proofs.Math.Nat.{pow-le-pow_right}
use Rattle.scaled_span.proofs.billionths.shifted.Goals as goal

bound : (x k : ℕ) → x < 2 ^ 94 → 63 ≤ k → x / 2 ^ k < 2 ^ 31
bound x k h d =
    let p : 2 ^ 63 ≤ 2 ^ k = pow-le-pow_right (omega arith) d in
    div_below x (2 ^ k) (2 ^ 31) (pow_pos k) (omega arith)

pub overflow_cast-result-else-k-ge94 : goal.overflow_cast-result-else-k-ge94
overflow_cast-result-else-k-ge94 c = omega (arith, bound c.args.x c.args.k c.requires.small c.requires.deep)

pub returns-else-k-ge94-clause-bound : goal.returns-else-k-ge94-clause-bound
returns-else-k-ge94-clause-bound c = bound c.args.x c.args.k c.requires.small c.requires.deep

pub returns-then-k-ge94-clause-above : goal.returns-then-k-ge94-clause-above
returns-then-k-ge94-clause-above c =
    let d : 94 ≤ c.args.k = omega arith in
    let p : 2 ^ 94 ≤ 2 ^ c.args.k = pow-le-pow_right (omega arith) d in
    omega arith
