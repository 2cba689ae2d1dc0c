use Rattle.std.proofs.Common.{◌≡◌, ◌-◌, ◌++◌, drop, length}
use Rattle.std.specs.Prelude.{string_bytes}
use Rattle.report_rules.specs.Text.{lines_of, report_text, text_of_lines}
use Rattle.lab_report.proofs.writing.write_report.Given as goal

abbrev pub invariant-loop-line : goal.invariant-loop-line
invariant-loop-line l = string_bytes l.text ++ text_of_lines (drop l.place (lines_of l.report)) ≡ report_text l.report

abbrev pub decreases-loop-line : goal.decreases-loop-line
decreases-loop-line l = length (lines_of l.report) - l.place
