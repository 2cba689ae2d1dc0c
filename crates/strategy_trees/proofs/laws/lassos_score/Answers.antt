use Rattle.strategy_trees.proofs.Circling.{lassos_score_lem}
use Rattle.strategy_trees.proofs.laws.lassos_score.Goals as goal

pub returns : goal.returns
returns c = lassos_score_lem c.scores_are_lowered.ensures
