use Rattle.strategy_trees.proofs.Uppers.{uppers_bound_trees_lem}
use Rattle.strategy_trees.proofs.laws.uppers_bound_trees.Goals as goal

pub returns : goal.returns
returns c = uppers_bound_trees_lem c.masses_add_up.ensures c.automata_are_weighed.ensures c.offset_lowers.ensures
