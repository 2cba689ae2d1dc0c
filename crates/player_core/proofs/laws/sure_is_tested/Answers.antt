use Rattle.player_core.proofs.Walking.{sure_is_tested}
use Rattle.player_core.proofs.laws.sure_is_tested.Goals as goal

pub returns : goal.returns
returns c = sure_is_tested
