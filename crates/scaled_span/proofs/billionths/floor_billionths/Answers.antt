use Rattle.std.proofs.Common.{arith, rules, ◌≡◌, ◌^◌, ◌≤◌, FitsSigned}
use Rattle.std.specs.Int.{w32}
use Rattle.std.proofs.lemmas.Int.{ints, to_z-of_z}
use Rattle.scaled_span.specs.Ratios.{above_zero, below_zero}
use Rattle.scaled_span.proofs.SpanLemmas.{floor_of, not_above}
use Rattle.scaled_span.proofs.billionths.floor_billionths.Goals as goal

pub returns-then-a-gtminus63 : goal.returns-then-a-gtminus63
returns-then-a-gtminus63 c = let n : 2 ^ 63 ≤ c.args.a.m = c.args.a.normal in absurd (not_above c.args.a.m c.args.a.e n (omega (arith, ints)) c.requires.chance)

pub returns : goal.returns
returns c =
    let a = c.args.a in
    let f : FitsSigned w32 a.e = search rules in
    let deep : c.depth.result ≡ below_zero a.e = simp to_z-of_z at c.depth.ensures.depth in
    let height : above_zero a.e ≡ 0 = simp to_z-of_z at c.depth.ensures.height in
    floor_of a.m c.shifted.result c.depth.result a.e height deep c.shifted.ensures.below c.shifted.ensures.above
