use Rattle.history_model.proofs.Rows.{automata_are_weighed_lem}
use Rattle.history_model.proofs.laws.automata_are_weighed.Goals as goal

pub returns : goal.returns
returns c = automata_are_weighed_lem
