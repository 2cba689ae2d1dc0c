use Rattle.moran_chain.proofs.Steps.{fixation_bounds_steps_lem}
use Rattle.moran_chain.proofs.laws.fixation_bounds_steps.Goals as goal

pub returns : goal.returns
returns c = fixation_bounds_steps_lem
