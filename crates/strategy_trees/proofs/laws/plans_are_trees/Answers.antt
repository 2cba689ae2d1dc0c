use Rattle.strategy_trees.proofs.Lowers.{plans_are_trees_lem}
use Rattle.strategy_trees.proofs.laws.plans_are_trees.Goals as goal

pub returns : goal.returns
returns c = plans_are_trees_lem
