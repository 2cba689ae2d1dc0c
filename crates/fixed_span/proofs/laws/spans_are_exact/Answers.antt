use Rattle.fixed_span.proofs.TextLaws.{spans_are_exact_lem}
use Rattle.fixed_span.proofs.laws.spans_are_exact.Goals as goal

pub returns : goal.returns
returns c = spans_are_exact_lem
