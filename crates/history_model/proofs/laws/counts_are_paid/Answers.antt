use Rattle.history_model.proofs.Counts.{counts_are_paid_lem}
use Rattle.history_model.proofs.laws.counts_are_paid.Goals as goal

pub returns : goal.returns
returns c = counts_are_paid_lem
