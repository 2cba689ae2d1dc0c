use Rattle.std.proofs.Common.{rules}
use Rattle.drill.specs.Drill.{drill_name}
use Rattle.drill.proofs.names.drill_name.Goals as goal

pub returns : goal.returns
unfolding drill_name
returns c = search rules
