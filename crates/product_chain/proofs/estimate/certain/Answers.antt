use Rattle.std.proofs.Common.{arith, ◌*◌, ◌≡◌, ap, sym, ◌∙◌, refl}
use Rattle.product_chain.specs.Layer.{plays}
use Rattle.product_chain.specs.Estimate.{from_starts}
use Rattle.product_chain.proofs.Certain.{sure_expected}
use Rattle.product_chain.proofs.Estimating.{exact_estimate}
use Rattle.product_chain.proofs.estimate.certain.Goals as goal

pub returns-clause-estimate : goal.returns-clause-estimate
returns-clause-estimate c =
    let s = c.args.side.now in
    let n = c.args.turns in
    let r = c.requires in
    let sure : from_starts s n ≡ c.path_points.result * plays s n =
    sure_expected s r.valid r.sure n s.own.now.start s.other.now.start r.valid.own.started r.valid.other.started ∙ ap (λ z. z * plays s n) (sym c.path_points.ensures) in
    exact_estimate s n (record { value = c.path_points.result; err = 0; scale = 1 }) r.valid.game r.some_turns r.few_turns (omega arith) (omega arith) refl (omega (arith, sure))
