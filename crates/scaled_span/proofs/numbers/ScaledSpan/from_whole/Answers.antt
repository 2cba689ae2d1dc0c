use Rattle.std.proofs.Common.{arith, pos}
use Rattle.scaled_span.specs.Ratios.{scaled}
use Rattle.scaled_span.proofs.SpanLemmas.{ordered_of, from_whole_holds, from_whole_tight, whole_below, whole_above}
use Rattle.scaled_span.proofs.numbers.ScaledSpan.from_whole.Goals as goal

pub returns-clause-contains : goal.returns-clause-contains
returns-clause-contains c = λ x p q.
    let lo = c.args.lo in
    let hi = c.args.hi in
    let down = c.rounded_down in
    let up = c.rounded_up in
    from_whole_holds lo hi _ x (whole_below lo down.result down.ensures.below down.ensures.close)
    (whole_above hi up.result up.ensures.above up.ensures.close) p q

pub returns-clause-tight : goal.returns-clause-tight
returns-clause-tight c = λ n e.
    let lo = c.args.lo in
    let hi = c.args.hi in
    let down = c.rounded_down in
    let up = c.rounded_up in
    from_whole_tight n lo hi _ (whole_below lo down.result down.ensures.below down.ensures.close)
    (whole_above hi up.result up.ensures.above up.ensures.close) e

pub invariant_of-result : goal.invariant_of-result
invariant_of-result c =
    record {
      ordered = ordered_of c.rounded_down.result c.rounded_up.result (scaled c.args.lo (pos 0)) (scaled c.args.hi (pos 0)) (omega arith) (omega arith)
          c.rounded_down.ensures.below (record { cross = omega arith }) c.rounded_up.ensures.above;
    }
