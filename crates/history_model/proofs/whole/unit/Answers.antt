use Rattle.std.proofs.Common.{arith}
use Rattle.history_model.proofs.Bounds.{unit-some, unit-few}
use Rattle.history_model.proofs.whole.unit.Goals as goal

pub returns-clause-some : goal.returns-clause-some
returns-clause-some c =
    unit-some _ _ (omega (arith, c.denominator.ensures.automaton.some)) (omega (arith, c.denominator-2.ensures.rate.some))

pub returns-clause-few : goal.returns-clause-few
returns-clause-few c =
    unit-few _ _ (omega (arith, c.denominator.ensures.automaton.few)) (omega (arith, c.denominator-2.ensures.rate.few))
