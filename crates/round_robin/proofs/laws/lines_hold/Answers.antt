use Rattle.round_robin.proofs.Ranging.{lines_hold}
use Rattle.round_robin.proofs.laws.lines_hold.Goals as goal

pub returns : goal.returns
returns c = lines_hold c.automata_are_weighed.ensures c.offset_lowers.ensures c.histories_agree_with_rows.ensures c.counts_are_paid.ensures
