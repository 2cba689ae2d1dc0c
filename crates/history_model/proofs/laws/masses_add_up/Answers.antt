use Rattle.history_model.proofs.Sums.{masses_add_up_lem}
use Rattle.history_model.proofs.laws.masses_add_up.Goals as goal

pub returns : goal.returns
returns c = masses_add_up_lem
