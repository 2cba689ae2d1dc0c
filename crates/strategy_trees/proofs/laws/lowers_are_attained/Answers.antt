use Rattle.strategy_trees.proofs.Lowers.{lowers_are_attained_lem}
use Rattle.strategy_trees.proofs.laws.lowers_are_attained.Goals as goal

pub returns : goal.returns
returns c = lowers_are_attained_lem c.masses_add_up.ensures c.automata_are_weighed.ensures c.offset_lowers.ensures
