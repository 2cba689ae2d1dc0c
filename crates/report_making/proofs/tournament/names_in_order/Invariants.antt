use Rattle.std.proofs.Common.{◌≡◌, ◌+◌, ◌*◌, ◌≤◌, length, drop}
use Rattle.std.specs.List.{AllWithin}
use Rattle.history_model.specs.Name.{IsName}
use Rattle.report_names.specs.Names.{with_names}
use Rattle.report_making.specs.Made.{names_in_order}
use Rattle.report_making.proofs.tournament.names_in_order.Given as goal

abbrev pub invariant-loop-name : goal.invariant-loop-name
invariant-loop-name l = record { order : with_names l.order (drop l.name-index l.names) ≡ names_in_order l.names l.matches; few : length l.order ≤ 2 * length l.matches + l.name-index; are_names : AllWithin IsName l.names 0 l.name-index }
