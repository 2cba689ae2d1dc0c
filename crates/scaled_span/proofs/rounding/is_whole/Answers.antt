use Rattle.std.proofs.Common.{arith, ◌≡◌, ◌*◌, ◌^◌, ◌%◌, ◌<◌, sym, ◌∙◌}
use Rattle.std.proofs.lemmas.Bool.{eqb-true}
use Rattle.std.proofs.Math.Nat.{mod-eq_of_lt}
use Rattle.scaled_span.proofs.rounding.is_whole.Goals as goal

pub returns : goal.returns
returns c = λ h.
    let m = c.args.m * 2 ^ c.args.k in
    let room : m < 2 ^ 128 = omega arith in
    let e : m % 2 ^ 128 ≡ m = mod-eq_of_lt room in
    sym e ∙ eqb-true (m % 2 ^ 128) c.args.p h
