use Rattle.round_robin.proofs.TrueRanks.{ranks_are}
use Rattle.round_robin.proofs.laws.ranks_are_true.Goals as goal

pub returns : goal.returns
returns c = ranks_are c.verdicts_are_true.ensures
