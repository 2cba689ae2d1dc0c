use Rattle.player_core.proofs.Sides.{restarted}
use Rattle.player_core.proofs.bench.Bench.restart.Goals as goal

pub returns-clause-left : goal.returns-clause-left
returns-clause-left g c = restarted _ _ c.restart_all.ensures.states c.restart_all.ensures.returns

pub returns-clause-right : goal.returns-clause-right
returns-clause-right g c = restarted _ _ c.restart_all-2.ensures.states c.restart_all-2.ensures.returns
