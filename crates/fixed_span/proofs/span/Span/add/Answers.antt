use Rattle.std.proofs.Common.{◌+ℤ◌, subst, sym}
use Rattle.fixed_span.specs.Span.{over, Holds}
use Rattle.fixed_span.proofs.Means.{sum_holds}
use Rattle.fixed_span.proofs.span.Span.add.Goals as goal

pub returns-clause-contains : goal.returns-clause-contains
returns-clause-contains c =
    λ units x y denominator first second. subst (λ s. Holds units s (over (x +ℤ y) denominator)) (sym c.added.ensures) (sum_holds units c.args.self c.args.other x y denominator first second)
