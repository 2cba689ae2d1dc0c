use Rattle.std.proofs.Common.{arith, rules, ◌^◌, ◌-◌, FitsSigned}
use Rattle.std.specs.Int.{w32}
use Rattle.std.proofs.lemmas.Int.{ints, to_z-of_z}
use Rattle.scaled_span.proofs.PowerLemmas.{small_room, small_normal, large_normal, large_room, cut_close, grown_below, grown_above, moved_below, moved_close}
use Rattle.scaled_span.proofs.RatioLemmas.{IsClose-of_most, IsClose-more}
use Rattle.scaled_span.proofs.rounding.rounded_down.Goals as goal

pub grown-m-requires-clause-high : goal.grown-m-requires-clause-high
grown-m-requires-clause-high c = small_room c.args.p c.ilog2-high.result (63 - c.ilog2-high.result) (omega arith) c.ilog2-high.ensures.next_power_gt

pub invariant_of-result : goal.invariant_of-result
invariant_of-result c = record { normal = let h = small_normal c.args.p c.ilog2-high.result (63 - c.ilog2-high.result) (omega arith) c.ilog2-high.ensures.power_le in omega (arith, h) }

pub returns-then-high-lt63-clause-below : goal.returns-then-high-lt63-clause-below
returns-then-high-lt63-clause-below c =
    let f : FitsSigned w32 c.lowered.result = search rules in
    rw c.grown-m.ensures (simp to_z-of_z (grown_below c.args.p (63 - c.ilog2-high.result) c.args.e c.lowered.result (omega (arith, ints))))

pub returns-then-high-lt63-clause-close : goal.returns-then-high-lt63-clause-close
returns-then-high-lt63-clause-close c =
    let f : FitsSigned w32 c.lowered.result = search rules in
    rw c.grown-m.ensures (simp to_z-of_z (IsClose-more (2 ^ 63) 0 1 _ _ (omega arith) (IsClose-of_most (2 ^ 63) _ _ (grown_above c.args.p (63 - c.ilog2-high.result) c.args.e c.lowered.result (omega (arith, ints))))))

pub cut-m-requires-clause-low : goal.cut-m-requires-clause-low
cut-m-requires-clause-low c = large_normal c.args.p c.ilog2-high.result (c.ilog2-high.result - 63) (omega arith) c.ilog2-high.ensures.power_le

pub cut-m-requires-clause-high : goal.cut-m-requires-clause-high
cut-m-requires-clause-high c = large_room c.args.p c.ilog2-high.result (c.ilog2-high.result - 63) (omega arith) c.ilog2-high.ensures.next_power_gt

pub returns-clause-below : goal.returns-clause-below
returns-clause-below c =
    let f : FitsSigned w32 c.raised.result = search rules in
    simp to_z-of_z (moved_below c.cut-m.result c.args.p (c.ilog2-high.result - 63) c.args.e c.raised.result (omega (arith, ints)) c.cut-m.ensures.below)

pub returns-clause-close : goal.returns-clause-close
returns-clause-close c =
    let f : FitsSigned w32 c.raised.result = search rules in
    simp to_z-of_z (moved_close (2 ^ 63) 1 c.cut-m.result c.args.p (c.ilog2-high.result - 63) c.args.e c.raised.result (omega (arith, ints))
    (cut_close c.cut-m.result c.args.p (c.ilog2-high.result - 63) c.cut-m.ensures.normal c.cut-m.ensures.below c.cut-m.ensures.above))
