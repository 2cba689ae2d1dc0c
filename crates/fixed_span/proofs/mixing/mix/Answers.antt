use Rattle.std.proofs.Common.{arith, rules, ◌≡◌, length, subst}
use Rattle.fixed_span.specs.Mix.{IsFloor, IsCeiling, weighted, lows, highs}
use Rattle.fixed_span.proofs.Means.{low_sum_is, high_sum_is, mix_holds, mix_width}
use Rattle.fixed_span.proofs.mixing.mix.Goals as goal
use Rattle.fixed_span.proofs.mixing.mix.Goals.{After-mix_four}

floor_is : (c : After-mix_four) → IsFloor (weighted c.args.weights (lows c.args.spans)) c.args.q c.mix_four.result.lo
floor_is c =
    let ws : length c.args.weights ≡ 4 = search rules in
    let ss : length c.args.spans ≡ 4 = search rules in
    subst (λ x. IsFloor x c.args.q c.mix_four.result.lo) (low_sum_is c.args.weights c.args.spans c.index-spans-0.result c.index-spans-1.result c.index-spans-2.result c.index-spans-3.result ws ss) c.mix_four.ensures.lo

ceiling_is : (c : After-mix_four) → IsCeiling (weighted c.args.weights (highs c.args.spans)) c.args.q c.mix_four.result.hi
ceiling_is c =
    let ws : length c.args.weights ≡ 4 = search rules in
    let ss : length c.args.spans ≡ 4 = search rules in
    subst (λ x. IsCeiling x c.args.q c.mix_four.result.hi) (high_sum_is c.args.weights c.args.spans c.index-spans-0.result c.index-spans-1.result c.index-spans-2.result c.index-spans-3.result ws ss) c.mix_four.ensures.hi

pub returns-clause-lo : goal.returns-clause-lo
returns-clause-lo c = floor_is (goal.at.returns-clause-lo c).After-mix_four

pub returns-clause-hi : goal.returns-clause-hi
returns-clause-hi c = ceiling_is (goal.at.returns-clause-hi c).After-mix_four

pub returns-clause-contains : goal.returns-clause-contains
returns-clause-contains c =
    let a = (goal.at.returns-clause-contains c).After-mix_four in
    let ss : length c.args.spans ≡ 4 = search rules in
    λ units xs d held. mix_holds units c.args.weights c.args.spans xs d c.args.q c.mix_four.result c.requires.positive (omega (arith, ss)) (floor_is a) (ceiling_is a) held

pub returns-clause-width : goal.returns-clause-width
returns-clause-width c =
    let a = (goal.at.returns-clause-width c).After-mix_four in
    let ws : length c.args.weights ≡ 4 = search rules in
    λ most within. mix_width c.args.weights c.args.spans most c.args.q c.mix_four.result ws c.requires.total (floor_is a) (ceiling_is a) within
