use Rattle.player_core.proofs.Keeping.{keeping_lasts}
use Rattle.player_core.proofs.laws.keeping_lasts.Goals as goal

pub returns : goal.returns
returns c = keeping_lasts
