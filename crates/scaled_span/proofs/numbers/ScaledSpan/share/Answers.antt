use Rattle.std.proofs.Common.{arith, ℕ, ◌+◌, ◌*◌, ◌≤◌, ℤ}
use Rattle.std.proofs.lemmas.Int.{ints}
use Rattle.scaled_span.specs.Ratios.{share_of}
use Rattle.scaled_span.specs.Values.{ExponentWithin, value}
use Rattle.scaled_span.proofs.RatioLemmas.{AtMost-share}
use Rattle.scaled_span.proofs.SpanLemmas.{ordered_of, share_den, share_down, share_up, share_holds, share_tight}
use Rattle.scaled_span.proofs.numbers.ScaledSpan.share.Goals as goal

pub returns-clause-lo : goal.returns-clause-lo
returns-clause-lo c = let a = c.args.self in share_down a.lo c.add_one_up-more.result c.div_down.result c.add_one_up-more.ensures.rounded c.div_down.ensures.rounded

pub returns-clause-hi : goal.returns-clause-hi
returns-clause-hi c = let a = c.args.self in share_up a.hi c.add_one_down-less.result c.div_up.result c.add_one_down-less.ensures.rounded c.div_up.ensures.rounded

pub returns-clause-contains : goal.returns-clause-contains
returns-clause-contains c = λ x p.
    let a = c.args.self in
    share_holds a _ x (share_down a.lo c.add_one_up-more.result c.div_down.result c.add_one_up-more.ensures.rounded c.div_down.ensures.rounded) (share_up a.hi c.add_one_down-less.result c.div_up.result c.add_one_down-less.ensures.rounded c.div_up.ensures.rounded) p

pub returns-clause-tight : goal.returns-clause-tight
returns-clause-tight c = λ n p.
    let a = c.args.self in
    share_tight n a _ (share_down a.lo c.add_one_up-more.result c.div_down.result c.add_one_up-more.ensures.rounded c.div_down.ensures.rounded) (share_up a.hi c.add_one_down-less.result c.div_up.result c.add_one_down-less.ensures.rounded c.div_up.ensures.rounded) p

within_as : (n m : ℕ) (e : ℤ) → n ≤ m → ExponentWithin n e → ExponentWithin m e
within_as n m e h k = record { low = omega (arith, ints); high = omega (arith, ints) }

pub returns-clause-exponents : goal.returns-clause-exponents
returns-clause-exponents c = λ k h. record {
  lo = within_as (k + (k + 70) + 140) (2 * k + 210) c.div_down.result.e (omega arith) (c.div_down.ensures.exponent k (k + 70) h.lo (c.add_one_up-more.ensures.exponent k h.lo));
  hi = within_as (k + (k + 70) + 140) (2 * k + 210) c.div_up.result.e (omega arith) (c.div_up.ensures.exponent k (k + 70) h.hi (c.add_one_down-less.ensures.exponent k h.hi));
}

pub invariant_of-result : goal.invariant_of-result
invariant_of-result c =
    let a = c.args.self in
    let low = share_down a.lo c.add_one_up-more.result c.div_down.result c.add_one_up-more.ensures.rounded c.div_down.ensures.rounded in
    let high = share_up a.hi c.add_one_down-less.result c.div_up.result c.add_one_down-less.ensures.rounded c.div_up.ensures.rounded in
    record { ordered = ordered_of c.div_down.result c.div_up.result (share_of (value a.lo)) (share_of (value a.hi)) (share_den a.lo) (share_den a.hi) low.below (AtMost-share (value a.lo) (value a.hi) a.ordered) high.above }
