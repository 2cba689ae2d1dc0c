use Rattle.player_core.proofs.Walking.{plays_walk}
use Rattle.player_core.proofs.laws.plays_walk.Goals as goal

pub returns : goal.returns
returns c = plays_walk
