use Rattle.strategy_trees.proofs.Offsets.{bounds_are_lowered_lem}
use Rattle.strategy_trees.proofs.laws.bounds_are_lowered.Goals as goal

pub returns : goal.returns
returns c = bounds_are_lowered_lem c.offset_lowers_trees.ensures c.plans_are_trees.ensures
