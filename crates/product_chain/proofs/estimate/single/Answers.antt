use Rattle.std.proofs.Common.{arith, zero, ◌*◌, ◌≤◌, ◌≡◌, ap, ◌∙◌, refl}
use Rattle.std.proofs.Math.Nat.{mul-le-mul, pow-succ', pow-zero}
use Rattle.product_chain.specs.Layer.{plays, one_play}
use Rattle.product_chain.specs.Estimate.{from_starts}
use Rattle.product_chain.proofs.Estimating.{exact_estimate}
use Rattle.product_chain.proofs.estimate.single.Goals as goal

pub returns-clause-estimate : goal.returns-clause-estimate
returns-clause-estimate c =
    let s = c.args.side.now in
    let r = c.requires.valid in
    let scale = s.own_over * s.other_over in
    let whole : scale ≡ one_play s = ap (λ z. z * s.other_over) r.own_over ∙ ap (λ z. s.own.now.den * s.own_noise.now.e * z) r.other_over in
    let once : plays s 1 ≡ one_play s = pow-succ' (one_play s) zero ∙ ap (λ z. one_play s * z) (pow-zero (one_play s)) ∙ omega arith in
    let some : 1 * 1 ≤ scale = mul-le-mul r.own_some r.other_some in
    let few : scale ≤ 1000000 * 1000000 = mul-le-mul r.own_few r.other_few in
    let right : scale * from_starts s 1 ≡ c.one_turn.result * plays s 1 = rw (whole, once, c.one_turn.ensures) (omega arith) in
    exact_estimate s 1 (record { value = c.one_turn.result; err = 0; scale = scale }) r.game (omega arith) (omega arith) some (omega (arith, few)) refl right
