use Rattle.history_model.proofs.Weights.{weights_decide_lem}
use Rattle.history_model.proofs.laws.weights_decide.Goals as goal

pub returns : goal.returns
returns c = weights_decide_lem
