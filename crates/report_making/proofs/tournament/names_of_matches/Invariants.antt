use Rattle.std.proofs.Common.{◌≡◌, ◌*◌, ◌≤◌, [], length, drop}
use Rattle.report_names.specs.Names.{with_names}
use Rattle.report_rules.specs.Valid.{match_names}
use Rattle.report_making.proofs.tournament.names_of_matches.Given as goal

abbrev pub invariant-loop-line : goal.invariant-loop-line
invariant-loop-line l = record { order : with_names l.order (match_names l.names (drop l.line-index l.matches)) ≡ with_names [] (match_names l.names l.matches); few : length l.order ≤ 2 * l.line-index }
