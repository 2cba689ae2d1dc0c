use Rattle.strategy_trees.proofs.Choosing.{strategies_are_trees_lem}
use Rattle.strategy_trees.proofs.laws.strategies_are_trees.Goals as goal

pub returns : goal.returns
returns c = strategies_are_trees_lem
