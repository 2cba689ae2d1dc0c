use Rattle.std.proofs.Common.{arith, rules, ◌*◌, FitsSigned}
use Rattle.std.specs.Int.{w32}
use Rattle.std.proofs.lemmas.Int.{ints, to_z-of_z}
use Rattle.scaled_span.specs.Ratios.{scaled, times}
use Rattle.scaled_span.specs.Values.{value}
use Rattle.scaled_span.proofs.PowerLemmas.{scaled_positive, product_same}
use Rattle.scaled_span.proofs.RatioLemmas.{down_by_same}
use Rattle.scaled_span.proofs.ends.mul_down.Goals as goal

pub returns-clause-rounded : goal.returns-clause-rounded
returns-clause-rounded c =
    let p = c.args.a.m * c.args.b.m in
    let y = scaled p c.sum.result in
    let f : FitsSigned w32 c.sum.result = search rules in
    down_by_same c.rounded_down.result y (times (value c.args.a) (value c.args.b)) (scaled_positive p c.sum.result) (simp to_z-of_z at c.rounded_down.ensures.below) (simp to_z-of_z at c.rounded_down.ensures.close) (product_same c.args.a.m c.args.b.m c.args.a.e c.args.b.e c.sum.result (omega (arith, ints)))
