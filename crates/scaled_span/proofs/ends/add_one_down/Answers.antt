use Rattle.std.proofs.Common.{arith, rules, ◌≡◌, ◌+◌, ◌^◌, ◌<◌, ◌≤◌, negsuc, FitsSigned, ap, ◌∙◌}
use Rattle.std.specs.Int.{w32}
use Rattle.std.proofs.lemmas.Int.{ints, to_z-of_z}
use Rattle.scaled_span.specs.Ratios.{scaled, plus_one, above_zero, below_zero}
use Rattle.scaled_span.specs.Values.{value}
use Rattle.scaled_span.proofs.PowerLemmas.{scaled_positive, sum_same, large_below, large_close, small_below, small_close}
use Rattle.scaled_span.proofs.RatioLemmas.{down_by_same_once}
use Rattle.scaled_span.proofs.ends.add_one_down.Goals as goal

pub returns-then-a-gt0-clause-rounded : goal.returns-then-a-gt0-clause-rounded
returns-then-a-gt0-clause-rounded c =
    let a = c.args.a in
    let n : 2 ^ 63 ≤ a.m = a.normal in
    record { below = large_below a.m a.e; close = large_close a.m a.e n (omega (arith, ints)) }

pub returns-then-k-ge128-clause-rounded : goal.returns-then-k-ge128-clause-rounded
returns-then-k-ge128-clause-rounded c =
    let a = c.args.a in
    let r : a.m < 2 ^ 64 = omega arith in
    let f : FitsSigned w32 a.e = search rules in
    let depth : c.depth-k.result ≡ below_zero a.e = simp to_z-of_z at c.depth-k.ensures.depth in
    let height : above_zero a.e ≡ 0 = simp to_z-of_z at c.depth-k.ensures.height in
    let y = scaled (2 ^ 63) (negsuc 62) in
    let deep : 128 ≤ below_zero a.e = omega (arith, depth) in
    record { below = small_below a.m a.e; close = small_close a.m a.e r height deep }

pub returns-clause-rounded : goal.returns-clause-rounded
returns-clause-rounded c =
    let a = c.args.a in
    let f : FitsSigned w32 a.e = search rules in
    let depth : c.depth-k.result ≡ below_zero a.e = simp to_z-of_z at c.depth-k.ensures.depth in
    let height : above_zero a.e ≡ 0 = simp to_z-of_z at c.depth-k.ensures.height in
    let p = c.joined.result in
    let e : p ≡ a.m + 2 ^ below_zero a.e = c.joined.ensures.value ∙ ap (λ k. a.m + 2 ^ k) depth in
    down_by_same_once c.rounded_down.result (scaled p a.e) (plus_one (value a)) (scaled_positive p a.e) (simp to_z-of_z at c.rounded_down.ensures.below) (simp to_z-of_z at c.rounded_down.ensures.close) (sum_same a.m p a.e height e)
