use Rattle.std.proofs.Common.{arith, ◌+◌, ◌*◌, ◌/◌, ◌%◌, ◌≡◌, ◌^◌}
use Rattle.product_chain.proofs.Reciprocal.{reciprocal_low, reciprocal_high}
use Rattle.product_chain.proofs.divide.divided.Goals as goal

pub returns-clause-low : goal.returns-clause-low
returns-clause-low c =
    let halves : c.args.x ≡ c.args.x / 2 ^ 64 * 2 ^ 64 + c.args.x % 2 ^ 64 = omega arith in
    reciprocal_low c.args.x (c.args.x / 2 ^ 64) (c.args.x % 2 ^ 64) c.args.by.now.high c.args.by.now.low c.args.by.now.q c.upper.result c.upper-2.result halves c.args.by.now.below c.upper.ensures.low c.upper-2.ensures.low

pub returns-clause-high : goal.returns-clause-high
returns-clause-high c =
    let halves : c.args.x ≡ c.args.x / 2 ^ 64 * 2 ^ 64 + c.args.x % 2 ^ 64 = omega arith in
    reciprocal_high c.args.x (c.args.x / 2 ^ 64) (c.args.x % 2 ^ 64) c.args.by.now.high c.args.by.now.low c.args.by.now.q c.upper.result c.upper-2.result halves (omega arith) (omega arith) (omega arith) c.args.by.now.above c.upper.ensures.high c.upper-2.ensures.high
