use Rattle.std.proofs.Common.{arith, ◌^◌, ◌<◌, ◌≤◌}
use Rattle.std.proofs.lemmas.Nat.{one_shl}
use Rattle.std.proofs.Math.Nat.{pow-le-pow_right}
use Rattle.scaled_span.proofs.ends.joined.Goals as goal

pub overflow_add-result : goal.overflow_add-result
overflow_add-result c =
    let k = c.args.k in
    let most : k ≤ 127 = omega arith in
    let room : 2 ^ k ≤ 2 ^ 127 = pow-le-pow_right (omega arith) most in
    let small : c.args.m < 2 ^ 64 = omega arith in
    omega (arith, one_shl k 128 c.requires)
