use Rattle.std.proofs.Common.{◌≡◌, ◌≤◌, [], length, drop, take}
use Rattle.std.specs.List.{All}
use Rattle.history_model.specs.Name.{IsName}
use Rattle.report_names.specs.Names.{with_names}
use Rattle.report_rules.specs.Valid.{first_names}
use Rattle.report_making.proofs.drill.first_order.Given as goal

abbrev pub invariant-loop-line : goal.invariant-loop-line
invariant-loop-line l = record { order : with_names l.order (first_names l.names (drop l.line-index l.first)) ≡ with_names [] (first_names l.names l.first); few : length l.order ≤ l.line-index; are_names : All IsName (first_names l.names (take l.line-index l.first)) }
