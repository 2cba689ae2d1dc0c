use Rattle.report_names.proofs.Growth.{gathered_differ, named_in, no_other}
use Rattle.report_names.proofs.PlaceLaws.{stands_there}
use Rattle.report_names.proofs.laws.names_grow.Goals as goal

pub returns : goal.returns
returns c = record { placed = named_in; stands = stands_there; differ = gathered_differ; no_other = no_other }
