use Rattle.scaled_span.proofs.Operations.{operations_add_up_lem}
use Rattle.scaled_span.proofs.laws.operations_add_up.Goals as goal

pub returns : goal.returns
returns c = operations_add_up_lem
