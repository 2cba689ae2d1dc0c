use Rattle.history_model.proofs.Paths.{path_is_one_lem}
use Rattle.history_model.proofs.laws.path_is_one.Goals as goal

pub returns : goal.returns
returns c = path_is_one_lem
