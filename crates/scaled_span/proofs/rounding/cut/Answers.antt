use Rattle.std.proofs.Common.{arith, ◌^◌}
use Rattle.std.proofs.lemmas.Nat.{pow_pos, shr_split, mod_below, le-div, div_below}
use Rattle.scaled_span.proofs.rounding.cut.Goals as goal

pub overflow_cast-result : goal.overflow_cast-result
overflow_cast-result c = omega (arith, div_below c.args.p (2 ^ c.args.k) (2 ^ 64) (pow_pos c.args.k) c.requires.high)

pub returns-clause-below : goal.returns-clause-below
returns-clause-below c = omega (arith, shr_split c.args.p c.args.k)

pub returns-clause-above : goal.returns-clause-above
returns-clause-above c = omega (arith, shr_split c.args.p c.args.k, mod_below c.args.p (2 ^ c.args.k) (pow_pos c.args.k))

pub returns-clause-normal : goal.returns-clause-normal
returns-clause-normal c = le-div (2 ^ 63) c.args.p (2 ^ c.args.k) (pow_pos c.args.k) c.requires.low
