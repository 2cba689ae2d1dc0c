use Rattle.std.proofs.Common.{arith, rules, ◌≡◌, ◌^◌, ◌<◌, ◌≤◌, pos, ◌+ℤ◌, FitsSigned}
use Rattle.std.specs.Int.{w32}
use Rattle.std.proofs.lemmas.Int.{ints, to_z-of_z}
use Rattle.scaled_span.specs.Ratios.{scaled, over}
use Rattle.scaled_span.specs.Values.{value}
use Rattle.scaled_span.proofs.PowerLemmas.{scaled_positive, quotient_below, quotient_close}
use Rattle.scaled_span.proofs.RatioLemmas.{down_by_steps}
use Rattle.scaled_span.proofs.ends.div_down.Goals as goal

pub returns-clause-rounded : goal.returns-clause-rounded
returns-clause-rounded c =
    let q = c.divided-q.result in
    let e = c.quotient_exponent.result in
    let f : FitsSigned w32 e = search rules in
    let a = c.args.a in let b = c.args.b in
    let move : a.e ≡ e +ℤ b.e +ℤ pos 64 = omega (arith, ints) in
    let n : 2 ^ 63 ≤ a.m = a.normal in
    let r : b.m < 2 ^ 64 = omega arith in
    down_by_steps (2 ^ 63) 1 1 c.rounded_down.result (scaled q e) (over (value a) (value b)) (omega arith) (scaled_positive q e) (simp to_z-of_z at c.rounded_down.ensures.below) (simp to_z-of_z at c.rounded_down.ensures.close)
    (quotient_below q a.m b.m a.e b.e e move c.divided-q.ensures.below) (quotient_close q a.m b.m a.e b.e e move n r c.divided-q.ensures.above)

pub returns-clause-exponent : goal.returns-clause-exponent
returns-clause-exponent c = λ x y h k. record { low = omega (arith, ints); high = omega (arith, ints) }
