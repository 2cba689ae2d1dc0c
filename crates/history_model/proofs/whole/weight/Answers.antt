use Rattle.std.proofs.Math.Nat.{mul-le-mul}
use Rattle.history_model.proofs.whole.weight.Goals as goal

pub returns-clause-within : goal.returns-clause-within
returns-clause-within c =
    rw (← c.denominator.ensures.value, ← c.denominator-2.ensures.value) (mul-le-mul c.shown-a_shown.ensures.within c.shown-b_shown.ensures.within)
