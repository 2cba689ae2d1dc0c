use Rattle.std.proofs.Common.{refl, ◌*◌}
use Rattle.product_chain.proofs.Estimating.{slim_estimate_from}
use Rattle.product_chain.proofs.estimate.slim.Goals as goal

pub returns : goal.returns
returns c =
    let s = c.args.side.now in
    let n = c.args.turns in
    let r = c.requires in
    let cell0 = c.in_ok-cell.ensures in
    let cell = rw (c.in_ok-plan.ensures.side, c.in_ok-plan.ensures.scale) at cell0 in
    slim_estimate_from s n c.in_ok-cell.cell (record { value = c.saturating_sub.result; err = 6 * n; scale = c.args.scale }) r.some_turns r.few_turns r.scale r.enough c.saturating_sub.ensures refl cell.near
