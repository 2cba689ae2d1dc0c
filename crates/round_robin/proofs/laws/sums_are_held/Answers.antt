use Rattle.round_robin.proofs.TrueTotals.{plus_holds}
use Rattle.round_robin.proofs.laws.sums_are_held.Goals as goal

pub returns : goal.returns
returns c = plus_holds
