use Rattle.std.proofs.Common.{arith, ◌≡◌, ◌*◌, ◌/◌, ◌%◌, ap, ◌∙◌, sym}
use Rattle.std.proofs.Math.Nat.{div-mul_cancel}
use Rattle.std.proofs.lemmas.Nat.Gcd.{dvd_of_mod-eq-zero}
use Rattle.mean_response.proofs.Ratios.{least_lowest}
use Rattle.mean_response.proofs.ratio.lowest.Goals as goal

pub returns-then-product-den-eq0-clause-lowest : goal.returns-then-product-den-eq0-clause-lowest
returns-then-product-den-eq0-clause-lowest c =
    let n : c.product-then-product-den-eq0.result ≡ c.args.num * c.loop-divisor.divisor = c.product-then-product-den-eq0.ensures.value in
    let m : c.product-then-product-den-eq0.result ≡ c.product.result = n ∙ sym c.product.ensures.value in
    let z : c.product-then-product-den-eq0.result % c.args.den ≡ 0 = ap (λ x. x % c.args.den) m ∙ c.if-product-den-eq0.true in
    let whole : c.product-then-product-den-eq0.result / c.args.den * c.args.den ≡ c.args.num * c.loop-divisor.divisor = div-mul_cancel c.args.den (dvd_of_mod-eq-zero c.args.den z) ∙ n in
    least_lowest c.args.num c.args.den (c.product-then-product-den-eq0.result / c.args.den) c.loop-divisor.divisor (omega arith) c.requires.some whole c.loop-divisor.invariant

pub returns-clause-lowest : goal.returns-clause-lowest
returns-clause-lowest c = least_lowest c.args.num c.args.den c.args.num c.args.den c.requires.some c.requires.some (omega arith) (λ k h l e. c.loop-divisor.invariant k h (omega arith) e)
