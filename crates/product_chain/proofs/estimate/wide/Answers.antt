use Rattle.std.proofs.Common.{arith, refl, ◌*◌}
use Rattle.product_chain.proofs.Estimating.{wide_estimate_from}
use Rattle.product_chain.proofs.estimate.wide.Goals as goal

pub returns : goal.returns
returns c =
    let s = c.args.side.now in
    let n = c.args.turns in
    let r = c.requires in
    let cell0 = c.in_ok-cell.ensures in
    let cell = rw (c.in_ok-plan.ensures.side, c.in_ok-plan.ensures.scale) at cell0 in
    wide_estimate_from s n (record { value = c.in_ok-cell.cell; err = 4 * n; scale = c.scale_of-scale.result }) r.some_turns r.few_turns c.scale_of-scale.ensures refl
    (record { low = omega (arith, cell.near.low); high = cell.near.high })
