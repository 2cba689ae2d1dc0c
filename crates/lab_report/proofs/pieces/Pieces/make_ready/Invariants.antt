use Rattle.std.proofs.Common.{◌≡◌, ◌-◌, length}
use Rattle.lab_report.specs.Pieces.{to_come}
use Rattle.report_rules.specs.Text.{lines_of}
use Rattle.lab_report.proofs.pieces.Pieces.make_ready.Given as goal

abbrev pub invariant-loop-line : goal.invariant-loop-line
invariant-loop-line l = to_come l.self ≡ to_come l.fn.self

abbrev pub decreases-loop-line : goal.decreases-loop-line
decreases-loop-line l = length (lines_of l.self.report.now) - l.self.next
