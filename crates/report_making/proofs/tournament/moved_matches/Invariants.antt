use Rattle.std.proofs.Common.{◌≡◌, ◌++◌, drop}
use Rattle.report_making.specs.Made.{moved_matches}
use Rattle.report_making.proofs.tournament.moved_matches.Given as goal

abbrev pub invariant-loop-line : goal.invariant-loop-line
invariant-loop-line l = l.moved.items ++ moved_matches l.names l.order (drop l.line-index l.matches) ≡ moved_matches l.names l.order l.matches
