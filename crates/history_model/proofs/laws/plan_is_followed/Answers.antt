use Rattle.history_model.proofs.Plans.{plan_is_followed_lem}
use Rattle.history_model.proofs.laws.plan_is_followed.Goals as goal

pub returns : goal.returns
returns c = plan_is_followed_lem
