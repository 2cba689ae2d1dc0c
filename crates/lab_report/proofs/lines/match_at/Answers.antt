use Rattle.std.proofs.Common.{Some, sym, ap, ◌∙◌}
use Rattle.result_lines.specs.declared.line.MatchLine.{MatchLine}
use Rattle.report_lines.specs.declared.line.Line.TheVariants as lines
use Rattle.report_lines.specs.declared.line.ShownMatch.{ShownMatch}
use Rattle.report_rules.specs.Text.{shown_match}
use Rattle.lab_report.proofs.Numbered.{made_there}
use Rattle.lab_report.proofs.lines.match_at.Goals as goal

pub returns : goal.returns
returns c =
    ap (λ (shown : ShownMatch). Some (lines.Match shown)) c.shown_match.ensures
    ∙ sym (made_there (λ (line : MatchLine). lines.Match (shown_match c.args.names.now line)) c.args.matches.now c.args.index c.in_ok-line.line.now c.in_ok-line.ensures.lookup.3.0 c.in_ok-line.ensures.lookup.1)
