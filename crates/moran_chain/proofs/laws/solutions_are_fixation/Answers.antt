use Rattle.moran_chain.proofs.Solutions.{solutions_are_fixation_lem}
use Rattle.moran_chain.proofs.laws.solutions_are_fixation.Goals as goal

pub returns : goal.returns
returns c = solutions_are_fixation_lem
