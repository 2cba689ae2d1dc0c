use Rattle.texts.proofs.PointLaws.{points_are_exact_lem}
use Rattle.texts.proofs.laws.points_are_exact.Goals as goal

pub returns : goal.returns
returns c = points_are_exact_lem
