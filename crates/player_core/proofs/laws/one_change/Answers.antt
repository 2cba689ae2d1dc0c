use Rattle.player_core.proofs.Growing.{one_change}
use Rattle.player_core.proofs.laws.one_change.Goals as goal

pub returns : goal.returns
returns c = one_change
