use Rattle.std.proofs.Common.{arith}
use Rattle.std.proofs.Math.Nat.{mul-pos}
use Rattle.scaled_span.specs.Ratios.{over}
use Rattle.scaled_span.specs.Values.{value}
use Rattle.scaled_span.proofs.RatioLemmas.{AtMost-over, down_coarser, up_coarser}
use Rattle.scaled_span.proofs.SpanLemmas.{value_den, value_num, ordered_of, div_holds, div_tight}
use Rattle.scaled_span.proofs.numbers.ScaledSpan.div.Goals as goal

pub returns-clause-lo : goal.returns-clause-lo
returns-clause-lo c =
    let a = c.args.self in
    let b = c.args.other in
    down_coarser 2 c.div_down.result (over (value a.lo) (value b.hi)) (omega arith) c.div_down.ensures.rounded

pub returns-clause-hi : goal.returns-clause-hi
returns-clause-hi c =
    let a = c.args.self in
    let b = c.args.other in
    up_coarser 2 c.div_up.result (over (value a.hi) (value b.lo)) (omega arith) c.div_up.ensures.rounded

pub returns-clause-contains : goal.returns-clause-contains
returns-clause-contains c = λ x y p q.
    let a = c.args.self in
    let b = c.args.other in
    div_holds a b _ x y (down_coarser 2 c.div_down.result (over (value a.lo) (value b.hi)) (omega arith) c.div_down.ensures.rounded) (up_coarser 2 c.div_up.result (over (value a.hi) (value b.lo)) (omega arith) c.div_up.ensures.rounded) p q

pub returns-clause-tight : goal.returns-clause-tight
returns-clause-tight c = λ n m p q.
    let a = c.args.self in
    let b = c.args.other in
    div_tight n m a b _ (down_coarser 2 c.div_down.result (over (value a.lo) (value b.hi)) (omega arith) c.div_down.ensures.rounded) (up_coarser 2 c.div_up.result (over (value a.hi) (value b.lo)) (omega arith) c.div_up.ensures.rounded) p q

pub returns-clause-exponents : goal.returns-clause-exponents
returns-clause-exponents c = λ j k p q. record { lo = c.div_down.ensures.exponent j k p.lo q.hi; hi = c.div_up.ensures.exponent j k p.hi q.lo }

pub invariant_of-result : goal.invariant_of-result
invariant_of-result c =
    let a = c.args.self in
    let b = c.args.other in
    record {
      ordered = ordered_of c.div_down.result c.div_up.result (over (value a.lo) (value b.hi)) (over (value a.hi) (value b.lo)) (mul-pos (value_den a.lo) (value_num b.hi)) (mul-pos (value_den a.hi) (value_num b.lo)) c.div_down.ensures.rounded.below (AtMost-over (value a.lo) (value a.hi) (value b.hi) (value b.lo) a.ordered b.ordered) c.div_up.ensures.rounded.above;
    }
