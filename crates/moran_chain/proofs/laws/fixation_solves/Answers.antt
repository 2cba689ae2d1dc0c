use Rattle.moran_chain.proofs.Solutions.{fixation_solves_lem}
use Rattle.moran_chain.proofs.laws.fixation_solves.Goals as goal

pub returns : goal.returns
returns c = fixation_solves_lem
