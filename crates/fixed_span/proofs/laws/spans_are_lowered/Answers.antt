use Rattle.fixed_span.proofs.Lowering.{spans_are_lowered_lem}
use Rattle.fixed_span.proofs.laws.spans_are_lowered.Goals as goal

pub returns : goal.returns
returns c = spans_are_lowered_lem
