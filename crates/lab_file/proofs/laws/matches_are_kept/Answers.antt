use Rattle.lab_file.proofs.Keeping.{matches_are_kept}
use Rattle.lab_file.proofs.laws.matches_are_kept.Goals as goal

pub returns : goal.returns
returns c = matches_are_kept
