use Rattle.texts.proofs.SignedLaws.{signed_points_are_exact_lem}
use Rattle.texts.proofs.laws.signed_points_are_exact.Goals as goal

pub returns : goal.returns
returns c = signed_points_are_exact_lem
