use Rattle.std.proofs.Common.{arith, suc, ◌≡◌, ◌+◌, ◌-◌, ◌*◌, ◌≤◌, ap}
use Rattle.moran_chain.specs.Ranges.{first_worth, second_worth}
use Rattle.moran_chain.proofs.ChainLemmas.{one_holds, one_tight, tight_as, exponents_as, nested_step}
use Rattle.moran_chain.proofs.chain.later_sum.Goals as goal

pub loop-j-init : goal.loop-j-init
loop-j-init c =
    let one = c.from_whole-sum in
    let none : c.args.m - 1 - (c.args.m - 1) ≡ 0 = omega arith in
    record {
      low = omega arith;
      high = omega arith;
      holds = λ v h. rw none (one_holds one.result one.ensures.contains);
      tight = λ n h. rw none (tight_as 2 ((2 * n + 10) * 0 + 2) one.result (omega arith) (one_tight one.result one.ensures.tight));
      exponents = rw none one.ensures.exponents;
    }

pub mul-part-requires-clause-other_within : goal.mul-part-requires-clause-other_within
mul-part-requires-clause-other_within c = exponents_as (490 * (c.args.m - 1 - c.loop-j.j) + 70) 2000000 c.loop-j.sum (omega arith) c.loop-j.invariant.exponents

pub add_one-sum-requires : goal.add_one-sum-requires
add_one-sum-requires c =
    let n = c.args.m - 1 - c.loop-j.j in
    let few : 280 + (490 * n + 70) + 140 ≤ 2000000 = omega arith in
    record { within = exponents_as (280 + (490 * n + 70) + 140) 2000000 c.mul-part.result few (c.mul-part.ensures.exponents 280 (490 * n + 70) c.ratio-r.ensures.exponents c.loop-j.invariant.exponents) }

pub loop-j-preserved : goal.loop-j-preserved
loop-j-preserved c =
    let n = c.args.m - 1 - c.loop-j.j in
    let j = c.loop-j.j - 1 in
    let place : c.loop-j.j ≡ suc j = omega arith in
    let rounds : c.args.m - 1 - j ≡ suc n = omega arith in
    let p = c.mul-part in
    let r = c.add_one-sum in
    record {
      low = omega arith;
      high = omega arith;
      holds = λ v h.
          nested_step (first_worth v c.args.m) (second_worth v c.args.m) j c.loop-j.j n (c.args.m - 1 - j) c.ratio-r.result c.loop-j.sum p.result r.result place rounds
          p.ensures.contains r.ensures.contains (c.ratio-r.ensures.holds v h) (c.loop-j.invariant.holds v h);
      tight = λ k h.
          tight_as (2 * k + 6 + ((2 * k + 10) * n + 2) + 2 + 2) ((2 * k + 10) * (c.args.m - 1 - j) + 2) r.result (omega (arith, ap (λ z. (2 * k + 10) * z) rounds))
          (r.ensures.tight (2 * k + 6 + ((2 * k + 10) * n + 2) + 2) (p.ensures.tight (2 * k + 6) ((2 * k + 10) * n + 2) (c.ratio-r.ensures.tight k h) (c.loop-j.invariant.tight k h)));
      exponents =
          exponents_as (280 + (490 * n + 70) + 140 + 70) (490 * (c.args.m - 1 - j) + 70) r.result (omega arith)
          (r.ensures.exponents (280 + (490 * n + 70) + 140) (p.ensures.exponents 280 (490 * n + 70) c.ratio-r.ensures.exponents c.loop-j.invariant.exponents));
    }

pub returns-clause-tight : goal.returns-clause-tight
returns-clause-tight c = λ n h.
    let e : c.args.m - 1 - c.loop-j.j ≡ c.args.m - 1 - c.args.i = omega arith in
    tight_as ((2 * n + 10) * (c.args.m - 1 - c.loop-j.j) + 2) ((2 * n + 10) * (c.args.m - 1 - c.args.i) + 2) c.loop-j.sum (ap (λ z. (2 * n + 10) * z + 2) e) (c.loop-j.invariant.tight n h)
