use Rattle.strategy_trees.proofs.Scores.{means_are_lowered_lem}
use Rattle.strategy_trees.proofs.laws.means_are_lowered.Goals as goal

pub returns : goal.returns
returns c = means_are_lowered_lem c.scores_are_lowered.ensures
