use Rattle.player_core.proofs.Entering.{entries_play}
use Rattle.player_core.proofs.laws.entries_play.Goals as goal

pub returns : goal.returns
returns c = entries_play
