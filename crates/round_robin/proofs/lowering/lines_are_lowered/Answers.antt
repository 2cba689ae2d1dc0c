use Rattle.round_robin.proofs.Offsets.{lines_are_lowered_lem}
use Rattle.round_robin.proofs.lowering.lines_are_lowered.Goals as goal

pub returns : goal.returns
returns c = lines_are_lowered_lem c.spans_are_lowered.ensures c.automata_are_weighed.ensures c.offset_lowers.ensures c.lines_hold.ensures
