use Rattle.std.proofs.Common.{◌≡◌, ◌++◌, drop}
use Rattle.report_making.specs.Made.{moved_first}
use Rattle.report_making.proofs.drill.moved_first.Given as goal

abbrev pub invariant-loop-line : goal.invariant-loop-line
invariant-loop-line l = l.moved.items ++ moved_first l.names l.order (drop l.line-index l.first) ≡ moved_first l.names l.order l.first
