use Rattle.result_lines.proofs.Offsets.{totals_are_lowered_lem}
use Rattle.result_lines.proofs.laws.totals_are_lowered.Goals as goal

pub returns : goal.returns
returns c = totals_are_lowered_lem c.spans_are_lowered.ensures
