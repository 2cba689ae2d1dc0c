use Rattle.round_robin.proofs.Offsets.{lowered_tournaments_are}
use Rattle.round_robin.proofs.lowering.lowered_tournaments_are_true.Goals as goal

pub returns : goal.returns
returns c = lowered_tournaments_are c.lines_are_lowered.ensures c.totals_are_lowered.ensures c.totals_hold_true_totals.ensures c.ranks_are_true.ensures
