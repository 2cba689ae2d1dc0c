use Rattle.std.proofs.Common.{◌≡◌, ◌+◌, drop}
use Rattle.report_names.specs.Names.{place_in}
use Rattle.report_names.proofs.names.place_in.Given as goal

abbrev pub invariant-loop-other : goal.invariant-loop-other
invariant-loop-other l = record { place : place_in (drop l.other-index l.names) l.name + l.place ≡ place_in l.names l.name; at_is : l.place ≡ l.other-index }
