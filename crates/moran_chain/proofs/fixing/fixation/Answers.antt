use Rattle.std.proofs.Common.{arith, ◌+◌, ◌*◌, ◌≤◌}
use Rattle.moran_chain.specs.declared.ranges.Ranges.{Ranges}
use Rattle.moran_chain.proofs.Chances.{holds_fixation, width_of, point_width, span_width, asked_width, parts_few, told_of}
use Rattle.moran_chain.proofs.fixing.fixation.Goals as goal

pub returns-clause-holds : goal.returns-clause-holds
returns-clause-holds c = λ s h.
    let t : Ranges = record { a = c.range_of.result; b = c.range_of-2.result; c = c.range_of-3.result; d = c.range_of-4.result } in
    let x = c.billionths-lo in
    holds_fixation c.args.a c.args.b c.args.c c.args.d t c.args.turns c.args.wn c.args.wd c.args.m c.args.i x.result.0 x.result.1 c.chance_span-span.result s
    (omega arith) (omega arith) (omega arith) c.requires.below
    (record { lo = c.range_of.ensures.lo; hi = c.range_of.ensures.hi }) (record { lo = c.range_of-2.ensures.lo; hi = c.range_of-2.ensures.hi })
    (record { lo = c.range_of-3.ensures.lo; hi = c.range_of-3.ensures.hi }) (record { lo = c.range_of-4.ensures.lo; hi = c.range_of-4.ensures.hi })
    c.chance_span-span.ensures.holds x.ensures.lo x.ensures.hi h

pub returns-clause-points : goal.returns-clause-points
returns-clause-points c = λ h.
    let s = c.chance_span-span in
    let x = c.billionths-lo in
    point_width x.result.0 x.result.1 c.args.m c.requires.m
    (width_of s.result x.result.0 x.result.1 (c.args.m * (4 * 0 + 18) + 12) (omega arith)
    (s.ensures.tight 0 (record { a = c.range_of.ensures.point h.first; b = c.range_of-2.ensures.point h.second; c = c.range_of-3.ensures.point h.third; d = c.range_of-4.ensures.point h.fourth }))
    x.ensures.lo x.ensures.hi)

pub returns-clause-narrow : goal.returns-clause-narrow
returns-clause-narrow c =
    let s = c.chance_span-span in
    let x = c.billionths-lo in
    let k = c.args.wn * 2305844 in
    let few : c.args.wn ≤ 100 = omega arith in
    span_width x.result.0 x.result.1 c.args.m c.args.wn c.requires.m few
    (width_of s.result x.result.0 x.result.1 (c.args.m * (4 * k + 18) + 12) (parts_few c.args.m c.args.wn c.requires.m few)
    (s.ensures.tight k (record { a = c.range_of.ensures.narrow; b = c.range_of-2.ensures.narrow; c = c.range_of-3.ensures.narrow; d = c.range_of-4.ensures.narrow }))
    x.ensures.lo x.ensures.hi)

pub returns-clause-width : goal.returns-clause-width
returns-clause-width c =
    let s = c.chance_span-span in
    let x = c.billionths-lo in
    let k = c.args.wn * 2305844 in
    let few : c.args.wn ≤ 100 = omega arith in
    asked_width x.result.0 x.result.1 c.args.m c.args.wn c.requires.pair
    (span_width x.result.0 x.result.1 c.args.m c.args.wn c.requires.m few
    (width_of s.result x.result.0 x.result.1 (c.args.m * (4 * k + 18) + 12) (parts_few c.args.m c.args.wn c.requires.m few)
    (s.ensures.tight k (record { a = c.range_of.ensures.narrow; b = c.range_of-2.ensures.narrow; c = c.range_of-3.ensures.narrow; d = c.range_of-4.ensures.narrow }))
    x.ensures.lo x.ensures.hi))

pub returns-clause-told : goal.returns-clause-told
returns-clause-told c = λ s h.
    let t : Ranges = record { a = c.range_of.result; b = c.range_of-2.result; c = c.range_of-3.result; d = c.range_of-4.result } in
    let x = c.billionths-lo in
    let all = holds_fixation c.args.a c.args.b c.args.c c.args.d t c.args.turns c.args.wn c.args.wd c.args.m c.args.i x.result.0 x.result.1 c.chance_span-span.result s
    (omega arith) (omega arith) (omega arith) c.requires.below
    (record { lo = c.range_of.ensures.lo; hi = c.range_of.ensures.hi }) (record { lo = c.range_of-2.ensures.lo; hi = c.range_of-2.ensures.hi })
    (record { lo = c.range_of-3.ensures.lo; hi = c.range_of-3.ensures.hi }) (record { lo = c.range_of-4.ensures.lo; hi = c.range_of-4.ensures.hi })
    c.chance_span-span.ensures.holds x.ensures.lo x.ensures.hi h in
    let v = c.verdict_of-verdict in
    told_of v.result x.result.0 x.result.1 c.args.m c.args.i _ v.ensures.favoured.0 v.ensures.opposed.0 v.ensures.neutral.0 all.chance
