use Rattle.fixed_span.proofs.Verdicts.{verdicts_are_true_lem}
use Rattle.fixed_span.proofs.laws.verdicts_are_true.Goals as goal

pub returns : goal.returns
returns c = verdicts_are_true_lem
