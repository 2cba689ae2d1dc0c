use Rattle.player_core.proofs.Keeping.{load_keeps}
use Rattle.player_core.proofs.laws.load_keeps.Goals as goal

pub returns : goal.returns
returns c = load_keeps
