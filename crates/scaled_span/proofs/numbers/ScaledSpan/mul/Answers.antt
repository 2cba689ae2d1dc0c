use Rattle.std.proofs.Common.{arith}
use Rattle.std.proofs.Math.Nat.{mul-pos}
use Rattle.scaled_span.specs.Ratios.{times}
use Rattle.scaled_span.specs.Values.{value}
use Rattle.scaled_span.proofs.RatioLemmas.{AtMost-times, down_coarser, up_coarser}
use Rattle.scaled_span.proofs.SpanLemmas.{value_den, ordered_of, mul_holds, mul_tight}
use Rattle.scaled_span.proofs.numbers.ScaledSpan.mul.Goals as goal

pub returns-clause-lo : goal.returns-clause-lo
returns-clause-lo c =
    let a = c.args.self in
    let b = c.args.other in
    down_coarser 2 c.mul_down.result (times (value a.lo) (value b.lo)) (omega arith) c.mul_down.ensures.rounded

pub returns-clause-hi : goal.returns-clause-hi
returns-clause-hi c =
    let a = c.args.self in
    let b = c.args.other in
    up_coarser 2 c.mul_up.result (times (value a.hi) (value b.hi)) (omega arith) c.mul_up.ensures.rounded

pub returns-clause-contains : goal.returns-clause-contains
returns-clause-contains c = λ x y p q.
    let a = c.args.self in
    let b = c.args.other in
    mul_holds a b _ x y (down_coarser 2 c.mul_down.result (times (value a.lo) (value b.lo)) (omega arith) c.mul_down.ensures.rounded) (up_coarser 2 c.mul_up.result (times (value a.hi) (value b.hi)) (omega arith) c.mul_up.ensures.rounded) p q

pub returns-clause-tight : goal.returns-clause-tight
returns-clause-tight c = λ n m p q.
    let a = c.args.self in
    let b = c.args.other in
    mul_tight n m a b _ (down_coarser 2 c.mul_down.result (times (value a.lo) (value b.lo)) (omega arith) c.mul_down.ensures.rounded) (up_coarser 2 c.mul_up.result (times (value a.hi) (value b.hi)) (omega arith) c.mul_up.ensures.rounded) p q

pub returns-clause-exponents : goal.returns-clause-exponents
returns-clause-exponents c = λ j k p q. record { lo = c.mul_down.ensures.exponent j k p.lo q.lo; hi = c.mul_up.ensures.exponent j k p.hi q.hi }

pub invariant_of-result : goal.invariant_of-result
invariant_of-result c =
    let a = c.args.self in
    let b = c.args.other in
    record {
      ordered = ordered_of c.mul_down.result c.mul_up.result (times (value a.lo) (value b.lo)) (times (value a.hi) (value b.hi)) (mul-pos (value_den a.lo) (value_den b.lo)) (mul-pos (value_den a.hi) (value_den b.hi)) c.mul_down.ensures.rounded.below (AtMost-times (value a.lo) (value a.hi) (value b.lo) (value b.hi) a.ordered b.ordered) c.mul_up.ensures.rounded.above;
    }
