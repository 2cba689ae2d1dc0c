use Rattle.history_model.proofs.Offset.{offset_lowers_lem}
use Rattle.history_model.proofs.laws.offset_lowers.Goals as goal

pub returns : goal.returns
returns c = offset_lowers_lem
