use Rattle.std.proofs.Common.{ℕ, ℤ, Some, sym, ap, ◌∙◌}
use Rattle.report_lines.specs.declared.line.Line.TheVariants as lines
use Rattle.report_lines.specs.declared.line.ShownFirst.{ShownFirst}
use Rattle.report_rules.specs.Text.{shown_first}
use Rattle.lab_report.proofs.Numbered.{made_there}
use Rattle.lab_report.proofs.lines.first_at.Goals as goal

pub returns : goal.returns
returns c =
    ap (λ (shown : ShownFirst). Some (lines.First shown)) c.shown_first.ensures
    ∙ sym (made_there (λ (line : ℕ × ℤ). lines.First (shown_first c.args.names.now line)) c.args.first.now c.args.index c.in_ok-line.line.now c.in_ok-line.ensures.lookup.3.0 c.in_ok-line.ensures.lookup.1)
