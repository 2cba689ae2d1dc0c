use Rattle.strategy_trees.proofs.Gaps.{potentials_bound_trees_lem}
use Rattle.strategy_trees.proofs.laws.potentials_bound_trees.Goals as goal

pub returns : goal.returns
returns c = potentials_bound_trees_lem c.masses_add_up.ensures c.automata_are_weighed.ensures c.offset_lowers.ensures c.bounds_are_lowered.ensures
