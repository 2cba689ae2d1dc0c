use Rattle.history_model.proofs.Sides.{sides_are_alike_lem}
use Rattle.history_model.proofs.laws.sides_are_alike.Goals as goal

pub returns : goal.returns
returns c = sides_are_alike_lem
