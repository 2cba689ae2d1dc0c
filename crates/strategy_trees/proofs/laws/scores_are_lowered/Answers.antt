use Rattle.strategy_trees.proofs.Scores.{scores_are_lowered_lem}
use Rattle.strategy_trees.proofs.laws.scores_are_lowered.Goals as goal

pub returns : goal.returns
returns c = scores_are_lowered_lem
