use Rattle.machine_player.proofs.Machines.{machines_follow}
use Rattle.machine_player.proofs.laws.machines_follow_their_rule.Goals as goal

pub returns : goal.returns
returns c = machines_follow
