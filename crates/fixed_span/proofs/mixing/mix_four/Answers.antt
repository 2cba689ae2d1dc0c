use Rattle.std.proofs.Common.{◌^◌, ◌≡◌, pos, ap, ◌∙◌, ◌+◌, ◌*◌, arith}
use Rattle.fixed_span.proofs.Means.{raised_sum, floor_lowered, ceiling_lowered}
use Rattle.fixed_span.proofs.mixing.mix_four.Goals as goal

pub returns-clause-lo : goal.returns-clause-lo
returns-clause-lo c =
    floor_lowered _ _ c.both.result.lo c.args.q (10 ^ 24)
    (ap (λ x. pos x) c.total-low.ensures.value
    ∙ raised_sum c.args.w0 c.args.w1 c.args.w2 c.args.w3 c.args.q _ _ _ _ (10 ^ 24) c.args.a.lo c.args.b.lo c.args.c.lo c.args.d.lo c.requires.total
    c.parts-a_low.ensures.low c.parts-b_low.ensures.low c.parts-c_low.ensures.low c.parts-d_low.ensures.low)
    c.both.ensures.lo

pub returns-clause-hi : goal.returns-clause-hi
returns-clause-hi c =
    let sums : c.total-low.result + c.total-wide.result ≡ c.args.w0 * (c.parts-a_low.result.0 + c.parts-a_low.result.1) + c.args.w1 * (c.parts-b_low.result.0 + c.parts-b_low.result.1) + c.args.w2 * (c.parts-c_low.result.0 + c.parts-c_low.result.1) + c.args.w3 * (c.parts-d_low.result.0 + c.parts-d_low.result.1) =
    omega (arith, c.total-low.ensures.value, c.total-wide.ensures.value) in
    ceiling_lowered _ _ c.both.result.hi c.args.q (10 ^ 24)
    (ap (λ x. pos x) sums
    ∙ raised_sum c.args.w0 c.args.w1 c.args.w2 c.args.w3 c.args.q _ _ _ _ (10 ^ 24) c.args.a.hi c.args.b.hi c.args.c.hi c.args.d.hi c.requires.total
    c.parts-a_low.ensures.high c.parts-b_low.ensures.high c.parts-c_low.ensures.high c.parts-d_low.ensures.high)
    c.both.ensures.hi
