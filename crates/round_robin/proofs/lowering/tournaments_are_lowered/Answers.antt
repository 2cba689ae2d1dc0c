use Rattle.round_robin.proofs.Offsets.{tournaments_are_lowered_lem}
use Rattle.round_robin.proofs.lowering.tournaments_are_lowered.Goals as goal

pub returns : goal.returns
returns c = tournaments_are_lowered_lem c.lines_hold.ensures c.lines_are_lowered.ensures c.totals_are_lowered.ensures
