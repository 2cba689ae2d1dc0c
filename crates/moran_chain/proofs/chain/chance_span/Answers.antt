use Rattle.std.proofs.Common.{arith, ℕ, suc, ◌≡◌, ◌+◌, ◌-◌, ◌*◌}
use Rattle.scaled_span.specs.Ratios.{times, over, share_of}
use Rattle.moran_chain.specs.Moran.{product_to, fix}
use Rattle.moran_chain.specs.Ranges.{first_worth, second_worth, nested}
use Rattle.moran_chain.proofs.Process.{fix_same, share_den}
use Rattle.moran_chain.proofs.ChainLemmas.{IsIn-same, exponents_as, tight_more, all_fit, count, share_below}
use Rattle.moran_chain.proofs.chain.chance_span.Goals as goal

pub returns-clause-holds : goal.returns-clause-holds
returns-clause-holds c = λ v h.
    let m = c.args.m in
    let i = c.args.i in
    let n = i - 1 in
    let l = m - 1 - i in
    let f : ℕ → ℕ = first_worth v m in
    let g : ℕ → ℕ = second_worth v m in
    let fit = all_fit c.args.t.now v m h in
    let s = nested f g 0 n in
    let p = product_to f g i in
    let q = nested f g i l in
    let before : i ≡ suc n = omega arith in
    let after : suc (i + l) ≡ m = omega arith in
    let sums = c.first_sum in
    let share = c.share.ensures.contains (over s (times p q))
    (c.div-odds.ensures.contains s (times p q) (sums.ensures.holds v h) (c.mul-rest.ensures.contains p q (sums.ensures.product v h) (c.later_sum-later.ensures.holds v h))) in
    IsIn-same c.share.result (share_of (over s (times p q))) (fix f g m i) (share_den f g m i n l fit before after) (fix_same f g m i n l fit before after) share

pub returns-clause-tight : goal.returns-clause-tight
returns-clause-tight c = λ n h.
    let m = c.args.m in
    let i = c.args.i in
    let p = i - 1 in
    let l = m - 1 - i in
    let x = (2 * n + 10) * p + 2 in
    let a = (2 * n + 8) * i in
    let b = (2 * n + 10) * l + 2 in
    let sums = c.first_sum in
    let rest = c.mul-rest.ensures.tight a b (sums.ensures.product_tight n h) (c.later_sum-later.ensures.tight n h) in
    tight_more (x + (a + b + 2) + 2 + 2) (m * (4 * n + 18) + 12) c.share.result (count n p l i m (omega arith) (omega arith))
    (c.share.ensures.tight (x + (a + b + 2) + 2) (c.div-odds.ensures.tight x (a + b + 2) (sums.ensures.tight n h) rest))

pub returns-clause-share : goal.returns-clause-share
returns-clause-share c = share_below c.div-odds.result.lo c.share.result.lo c.share.ensures.lo

pub div-odds-requires-clause-self_within : goal.div-odds-requires-clause-self_within
div-odds-requires-clause-self_within c = exponents_as (490 * (c.args.i - 1) + 70) 2000000 c.first_sum.result.0 (omega arith) c.first_sum.ensures.exponents

pub div-odds-requires-clause-other_within : goal.div-odds-requires-clause-other_within
div-odds-requires-clause-other_within c =
    let i = c.args.i in
    let l = c.args.m - 1 - i in
    exponents_as (420 * i + (490 * l + 70) + 140) 2000000 c.mul-rest.result (omega arith) (c.mul-rest.ensures.exponents (420 * i) (490 * l + 70) c.first_sum.ensures.product_exponents c.later_sum-later.ensures.exponents)

pub share-requires : goal.share-requires
share-requires c =
    let i = c.args.i in
    let l = c.args.m - 1 - i in
    let x = 490 * (i - 1) + 70 in
    let y = 420 * i + (490 * l + 70) + 140 in
    record {
      within = exponents_as (x + y + 140) 2000000 c.div-odds.result (omega arith)
          (c.div-odds.ensures.exponents x y c.first_sum.ensures.exponents (c.mul-rest.ensures.exponents (420 * i) (490 * l + 70) c.first_sum.ensures.product_exponents c.later_sum-later.ensures.exponents));
    }

pub returns-clause-exponents : goal.returns-clause-exponents
returns-clause-exponents c =
    let i = c.args.i in
    let l = c.args.m - 1 - i in
    let x = 490 * (i - 1) + 70 in
    let y = 420 * i + (490 * l + 70) + 140 in
    exponents_as (2 * (x + y + 140) + 210) 2000000 c.share.result (omega arith)
    (c.share.ensures.exponents (x + y + 140) (c.div-odds.ensures.exponents x y c.first_sum.ensures.exponents (c.mul-rest.ensures.exponents (420 * i) (490 * l + 70) c.first_sum.ensures.product_exponents c.later_sum-later.ensures.exponents)))
