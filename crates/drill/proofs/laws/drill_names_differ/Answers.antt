use Rattle.drill.proofs.Differing.{names_differ}
use Rattle.drill.proofs.laws.drill_names_differ.Goals as goal

pub returns : goal.returns
returns c = names_differ
