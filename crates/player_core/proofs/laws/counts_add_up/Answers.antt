use Rattle.player_core.proofs.Growing.{counts_add_up}
use Rattle.player_core.proofs.laws.counts_add_up.Goals as goal

pub returns : goal.returns
returns c = counts_add_up
