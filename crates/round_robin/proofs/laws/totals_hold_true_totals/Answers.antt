use Rattle.round_robin.proofs.TrueTotals.{totals_hold}
use Rattle.round_robin.proofs.laws.totals_hold_true_totals.Goals as goal

pub returns : goal.returns
returns c = totals_hold
