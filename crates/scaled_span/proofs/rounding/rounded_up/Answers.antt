use Rattle.std.proofs.Common.{arith, rules, ◌+◌, ◌*◌, ◌^◌, ◌-◌, FitsSigned, ap}
use Rattle.std.specs.Int.{w32}
use Rattle.std.proofs.lemmas.Int.{ints, to_z-of_z}
use Rattle.scaled_span.proofs.PowerLemmas.{small_room, small_normal, large_normal, large_room, raised_close, raised_above, halved, grown_below, grown_above, moved_above, moved_close_up}
use Rattle.scaled_span.proofs.RatioLemmas.{IsClose-of_most, IsClose-more}
use Rattle.std.proofs.Math.Nat.{mul-le-mul_right}
use Rattle.scaled_span.proofs.rounding.rounded_up.Goals as goal

pub grown-m-requires-clause-high : goal.grown-m-requires-clause-high
grown-m-requires-clause-high c = small_room c.args.p c.ilog2-high.result (63 - c.ilog2-high.result) (omega arith) c.ilog2-high.ensures.next_power_gt

pub invariant_of-result : goal.invariant_of-result
invariant_of-result c = record { normal = let h = small_normal c.args.p c.ilog2-high.result (63 - c.ilog2-high.result) (omega arith) c.ilog2-high.ensures.power_le in omega (arith, h) }

pub returns-then-high-lt63-clause-above : goal.returns-then-high-lt63-clause-above
returns-then-high-lt63-clause-above c =
    let f : FitsSigned w32 c.lowered.result = search rules in
    rw c.grown-m.ensures (simp to_z-of_z (grown_above c.args.p (63 - c.ilog2-high.result) c.args.e c.lowered.result (omega (arith, ints))))

pub returns-then-high-lt63-clause-close : goal.returns-then-high-lt63-clause-close
returns-then-high-lt63-clause-close c =
    let f : FitsSigned w32 c.lowered.result = search rules in
    rw c.grown-m.ensures (simp to_z-of_z (IsClose-more (2 ^ 63) 0 1 _ _ (omega arith) (IsClose-of_most (2 ^ 63) _ _ (grown_below c.args.p (63 - c.ilog2-high.result) c.args.e c.lowered.result (omega (arith, ints))))))

pub cut-m-requires-clause-low : goal.cut-m-requires-clause-low
cut-m-requires-clause-low c = large_normal c.args.p c.ilog2-high.result (c.ilog2-high.result - 63) (omega arith) c.ilog2-high.ensures.power_le

pub cut-m-requires-clause-high : goal.cut-m-requires-clause-high
cut-m-requires-clause-high c = large_room c.args.p c.ilog2-high.result (c.ilog2-high.result - 63) (omega arith) c.ilog2-high.ensures.next_power_gt

pub returns-then-m-clause-above : goal.returns-then-m-clause-above
returns-then-m-clause-above c =
    let f : FitsSigned w32 c.raised-then-m.result = search rules in
    let k = c.ilog2-high.result - 63 in
    simp to_z-of_z (moved_above (2 ^ 63) c.args.p (k + 1) c.args.e c.raised-then-m.result (omega (arith, ints)) (omega (arith, halved k, c.cut-m.ensures.above, ap (λ z. z * 2 ^ k) c.if-m.true)))

pub returns-then-m-clause-close : goal.returns-then-m-clause-close
returns-then-m-clause-close c =
    let f : FitsSigned w32 c.raised-then-m.result = search rules in
    let k = c.ilog2-high.result - 63 in
    simp to_z-of_z (moved_close_up (2 ^ 63) 1 (2 ^ 63) c.args.p (k + 1) c.args.e c.raised-then-m.result (omega (arith, ints))
    (omega (arith, halved k, c.cut-m.ensures.below, ap (λ z. z * 2 ^ k) c.if-m.true)))

pub returns-clause-above : goal.returns-clause-above
returns-clause-above c =
    let f : FitsSigned w32 c.raised-2.result = search rules in
    let k = c.ilog2-high.result - 63 in
    simp to_z-of_z (moved_above (c.cut-m.result + 1) c.args.p k c.args.e c.raised-2.result (omega (arith, ints)) (raised_above c.cut-m.result c.args.p k c.cut-m.ensures.above))

pub returns-clause-close : goal.returns-clause-close
returns-clause-close c =
    let f : FitsSigned w32 c.raised-2.result = search rules in
    let k = c.ilog2-high.result - 63 in
    simp to_z-of_z (moved_close_up (2 ^ 63) 1 (c.cut-m.result + 1) c.args.p k c.args.e c.raised-2.result (omega (arith, ints))
    (raised_close c.cut-m.result c.args.p k c.cut-m.ensures.normal c.cut-m.ensures.below))

pub returns-then-is_whole-clause-above : goal.returns-then-is_whole-clause-above
returns-then-is_whole-clause-above c =
    let f : FitsSigned w32 c.raised.result = search rules in
    let k = c.ilog2-high.result - 63 in
    simp to_z-of_z (moved_above c.cut-m.result c.args.p k c.args.e c.raised.result (omega (arith, ints)) (omega (arith, c.is_whole.ensures c.if-is_whole.true)))

pub returns-then-is_whole-clause-close : goal.returns-then-is_whole-clause-close
returns-then-is_whole-clause-close c =
    let f : FitsSigned w32 c.raised.result = search rules in
    let k = c.ilog2-high.result - 63 in
    simp to_z-of_z (moved_close_up (2 ^ 63) 1 c.cut-m.result c.args.p k c.args.e c.raised.result (omega (arith, ints)) (omega (arith, mul-le-mul_right (2 ^ 63) c.cut-m.ensures.below)))
