use Rattle.lab_file.proofs.Noting.{labs_are_noted}
use Rattle.lab_file.proofs.laws.labs_are_noted.Goals as goal

pub returns : goal.returns
returns c = labs_are_noted
