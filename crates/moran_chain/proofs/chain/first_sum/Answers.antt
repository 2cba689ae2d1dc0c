use Rattle.std.proofs.Common.{arith, ℕ, suc, ◌≡◌, ◌+◌, ◌-◌, ◌*◌, ◌≤◌, ap}
use Rattle.scaled_span.specs.Values.{IsIn}
use Rattle.moran_chain.specs.Moran.{product_to}
use Rattle.moran_chain.specs.Ranges.{first_worth, second_worth, stretch}
use Rattle.moran_chain.proofs.Process.{stretch_same, stretch_some}
use Rattle.moran_chain.proofs.ChainLemmas.{IsIn-same, all_fit, one_holds, one_tight, tight_as, tight_more, exponents_as, nested_step, stretch_step, first_stretch}
use Rattle.moran_chain.proofs.chain.first_sum.Goals as goal

pub loop-k-init : goal.loop-k-init
loop-k-init c =
    let one = c.from_whole-sum in
    let r = c.ratio-product in
    let i = c.args.i in
    let none : i - 1 - (i - 1) ≡ 0 = omega arith in
    let single : i - (i - 1) ≡ 1 = omega arith in
    let place : i ≡ suc (i - 1) = omega arith in
    record {
      high = omega arith;
      holds = λ v h. rw none (one_holds one.result one.ensures.contains);
      product = λ v h. rw none (first_stretch (first_worth v c.args.m) (second_worth v c.args.m) (i - 1) i r.result place (r.ensures.holds v h));
      tight = λ n h. rw none (tight_as 2 ((2 * n + 10) * 0 + 2) one.result (omega arith) (one_tight one.result one.ensures.tight));
      product_tight = λ n h. rw single (tight_more (2 * n + 6) ((2 * n + 8) * 1) r.result (omega arith) (r.ensures.tight n h));
      exponents = rw none one.ensures.exponents;
      product_exponents = rw single (exponents_as 280 420 r.result (omega arith) r.ensures.exponents);
    }

pub mul-part-requires-clause-other_within : goal.mul-part-requires-clause-other_within
mul-part-requires-clause-other_within c = exponents_as (490 * (c.args.i - 1 - c.loop-k.k) + 70) 2000000 c.loop-k.sum (omega arith) c.loop-k.invariant.exponents

pub mul-product-requires-clause-other_within : goal.mul-product-requires-clause-other_within
mul-product-requires-clause-other_within c = exponents_as (420 * (c.args.i - c.loop-k.k)) 2000000 c.loop-k.product (omega arith) c.loop-k.invariant.product_exponents

pub add_one-sum-requires : goal.add_one-sum-requires
add_one-sum-requires c =
    let n = c.args.i - 1 - c.loop-k.k in
    let few : 280 + (490 * n + 70) + 140 ≤ 2000000 = omega arith in
    record { within = exponents_as (280 + (490 * n + 70) + 140) 2000000 c.mul-part.result few (c.mul-part.ensures.exponents 280 (490 * n + 70) c.ratio-r.ensures.exponents c.loop-k.invariant.exponents) }

pub loop-k-preserved : goal.loop-k-preserved
loop-k-preserved c =
    let i = c.args.i in
    let n = i - 1 - c.loop-k.k in
    let w = i - c.loop-k.k in
    let k = c.loop-k.k - 1 in
    let place : c.loop-k.k ≡ suc k = omega arith in
    let rounds : i - 1 - k ≡ suc n = omega arith in
    let factors : i - k ≡ suc w = omega arith in
    let p = c.mul-part in
    let r = c.add_one-sum in
    let q = c.mul-product in
    record {
      high = omega arith;
      holds = λ v h.
          nested_step (first_worth v c.args.m) (second_worth v c.args.m) k c.loop-k.k n (i - 1 - k) c.ratio-r.result c.loop-k.sum p.result r.result place rounds
          p.ensures.contains r.ensures.contains (c.ratio-r.ensures.holds v h) (c.loop-k.invariant.holds v h);
      product = λ v h.
          stretch_step (first_worth v c.args.m) (second_worth v c.args.m) k c.loop-k.k n (i - 1 - k) c.ratio-r.result c.loop-k.product q.result place rounds
          q.ensures.contains (c.ratio-r.ensures.holds v h) (c.loop-k.invariant.product v h);
      tight = λ z h.
          tight_as (2 * z + 6 + ((2 * z + 10) * n + 2) + 2 + 2) ((2 * z + 10) * (i - 1 - k) + 2) r.result (omega (arith, ap (λ y. (2 * z + 10) * y) rounds))
          (r.ensures.tight (2 * z + 6 + ((2 * z + 10) * n + 2) + 2) (p.ensures.tight (2 * z + 6) ((2 * z + 10) * n + 2) (c.ratio-r.ensures.tight z h) (c.loop-k.invariant.tight z h)));
      product_tight = λ z h.
          tight_as (2 * z + 6 + (2 * z + 8) * w + 2) ((2 * z + 8) * (i - k)) q.result (omega (arith, ap (λ y. (2 * z + 8) * y) factors))
          (q.ensures.tight (2 * z + 6) ((2 * z + 8) * w) (c.ratio-r.ensures.tight z h) (c.loop-k.invariant.product_tight z h));
      exponents =
          exponents_as (280 + (490 * n + 70) + 140 + 70) (490 * (i - 1 - k) + 70) r.result (omega arith)
          (r.ensures.exponents (280 + (490 * n + 70) + 140) (p.ensures.exponents 280 (490 * n + 70) c.ratio-r.ensures.exponents c.loop-k.invariant.exponents));
      product_exponents =
          exponents_as (280 + 420 * w + 140) (420 * (i - k)) q.result (omega arith)
          (q.ensures.exponents 280 (420 * w) c.ratio-r.ensures.exponents c.loop-k.invariant.product_exponents);
    }

pub returns-clause-holds : goal.returns-clause-holds
returns-clause-holds c = λ v h.
    let e : c.loop-k.k ≡ 0 = omega arith in
    let n : c.args.i - 1 - c.loop-k.k ≡ c.args.i - 1 = omega arith in
    rw (n, e) at (c.loop-k.invariant.holds v h)

pub returns-clause-product : goal.returns-clause-product
returns-clause-product c = λ v h.
    let m = c.args.m in
    let i = c.args.i in
    let f : ℕ → ℕ = first_worth v m in
    let g : ℕ → ℕ = second_worth v m in
    let fit = all_fit c.args.t.now v m h in
    let e : c.loop-k.k ≡ 0 = omega arith in
    let n : i - 1 - c.loop-k.k ≡ i - 1 = omega arith in
    let all : IsIn c.loop-k.product (stretch f g 0 (i - 1)) = rw (n, e) at (c.loop-k.invariant.product v h) in
    IsIn-same c.loop-k.product (stretch f g 0 (i - 1)) (product_to f g i) (stretch_some f g m 0 (i - 1) fit (omega arith)) (stretch_same f g m (i - 1) i fit (omega arith) (omega arith)) all

pub returns-clause-tight : goal.returns-clause-tight
returns-clause-tight c = λ n h.
    let e : c.args.i - 1 - c.loop-k.k ≡ c.args.i - 1 = omega arith in
    tight_as ((2 * n + 10) * (c.args.i - 1 - c.loop-k.k) + 2) ((2 * n + 10) * (c.args.i - 1) + 2) c.loop-k.sum (ap (λ z. (2 * n + 10) * z + 2) e) (c.loop-k.invariant.tight n h)

pub returns-clause-product_tight : goal.returns-clause-product_tight
returns-clause-product_tight c = λ n h.
    let e : c.args.i - c.loop-k.k ≡ c.args.i = omega arith in
    tight_as ((2 * n + 8) * (c.args.i - c.loop-k.k)) ((2 * n + 8) * c.args.i) c.loop-k.product (ap (λ z. (2 * n + 8) * z) e) (c.loop-k.invariant.product_tight n h)
