use Rattle.player_core.proofs.Fitting.{one_place_takes}
use Rattle.player_core.proofs.laws.one_place_takes.Goals as goal

pub returns : goal.returns
returns c = one_place_takes
