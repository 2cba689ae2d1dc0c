use Rattle.std.proofs.Common.{arith}
use Rattle.scaled_span.specs.Ratios.{plus_one}
use Rattle.scaled_span.specs.Values.{value}
use Rattle.scaled_span.proofs.RatioLemmas.{AtMost-plus_one, down_coarser, up_coarser}
use Rattle.scaled_span.proofs.SpanLemmas.{value_den, ordered_of, add_one_holds, add_one_tight}
use Rattle.scaled_span.proofs.numbers.ScaledSpan.add_one.Goals as goal

pub returns-clause-lo : goal.returns-clause-lo
returns-clause-lo c =
    let a = c.args.self in
    down_coarser 1 c.add_one_down.result (plus_one (value a.lo)) (omega arith) c.add_one_down.ensures.rounded

pub returns-clause-hi : goal.returns-clause-hi
returns-clause-hi c =
    let a = c.args.self in
    up_coarser 2 c.add_one_up.result (plus_one (value a.hi)) (omega arith) c.add_one_up.ensures.rounded

pub returns-clause-contains : goal.returns-clause-contains
returns-clause-contains c = λ x p.
    let a = c.args.self in
    add_one_holds a _ x (down_coarser 1 c.add_one_down.result (plus_one (value a.lo)) (omega arith) c.add_one_down.ensures.rounded) (up_coarser 2 c.add_one_up.result (plus_one (value a.hi)) (omega arith) c.add_one_up.ensures.rounded) p

pub returns-clause-tight : goal.returns-clause-tight
returns-clause-tight c = λ n p.
    let a = c.args.self in
    add_one_tight n a _ (down_coarser 1 c.add_one_down.result (plus_one (value a.lo)) (omega arith) c.add_one_down.ensures.rounded) (up_coarser 2 c.add_one_up.result (plus_one (value a.hi)) (omega arith) c.add_one_up.ensures.rounded) p

pub returns-clause-exponents : goal.returns-clause-exponents
returns-clause-exponents c = λ k p. record { lo = c.add_one_down.ensures.exponent k p.lo; hi = c.add_one_up.ensures.exponent k p.hi }

pub invariant_of-result : goal.invariant_of-result
invariant_of-result c =
    let a = c.args.self in
    record {
      ordered = ordered_of c.add_one_down.result c.add_one_up.result (plus_one (value a.lo)) (plus_one (value a.hi)) (value_den a.lo) (value_den a.hi) c.add_one_down.ensures.rounded.below (AtMost-plus_one (value a.lo) (value a.hi) a.ordered) c.add_one_up.ensures.rounded.above;
    }
