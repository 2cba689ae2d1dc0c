use Rattle.strategy_trees.proofs.Offsets.{offset_lowers_trees_lem}
use Rattle.strategy_trees.proofs.laws.offset_lowers_trees.Goals as goal

pub returns : goal.returns
returns c = offset_lowers_trees_lem c.offset_lowers.ensures c.automata_are_weighed.ensures
