use Rattle.std.proofs.Common.{◌≡◌, ◌++◌, drop}
use Rattle.report_making.specs.Made.{places_in}
use Rattle.report_making.proofs.tournament.places_in.Given as goal

abbrev pub invariant-loop-name : goal.invariant-loop-name
invariant-loop-name l = l.places.items ++ places_in l.order (drop l.name-index l.names) ≡ places_in l.order l.names
