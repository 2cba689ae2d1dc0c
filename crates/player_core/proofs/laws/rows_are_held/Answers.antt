use Rattle.player_core.proofs.Held.{rows_are_held}
use Rattle.player_core.proofs.laws.rows_are_held.Goals as goal

pub returns : goal.returns
returns c = rows_are_held
