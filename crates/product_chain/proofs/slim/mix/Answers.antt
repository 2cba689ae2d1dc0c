use Rattle.std.proofs.Common.{arith, ◌+◌, ◌-◌, ◌^◌, ◌≡◌, ◌≤◌}
use Rattle.product_chain.proofs.Mixing.{mix_above, is_mix}
use Rattle.product_chain.proofs.slim.mix.Goals as goal

pub overflow_sub-result : goal.overflow_sub-result
overflow_sub-result c =
    let spread = c.args.c + 2 ^ 63 - c.args.d in
    let is : spread + c.args.d ≡ c.args.c + 2 ^ 63 = omega arith in
    mix_above c.args.part c.args.c c.args.d spread c.upper.result c.requires.part c.requires.c c.requires.d is c.upper.ensures.low c.upper.ensures.high

pub returns : goal.returns
returns c =
    let spread = c.args.c + 2 ^ 63 - c.args.d in
    let is : spread + c.args.d ≡ c.args.c + 2 ^ 63 = omega arith in
    let above : c.args.part ≤ c.args.d + c.upper.result =
    mix_above c.args.part c.args.c c.args.d spread c.upper.result c.requires.part c.requires.c c.requires.d is c.upper.ensures.low c.upper.ensures.high in
    is_mix c.args.part c.args.c c.args.d spread c.upper.result c.requires.part c.requires.c c.requires.d is c.upper.ensures.low c.upper.ensures.high
    (c.args.d + c.upper.result - c.args.part) (omega (arith, above))
