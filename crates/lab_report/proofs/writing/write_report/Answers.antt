use Rattle.std.proofs.Common.{ap, sym, ◌∙◌}
use Rattle.std.specs.Prelude.{string_bytes}
use Rattle.report_rules.specs.Text.{lines_of, report_text}
use Rattle.lab_report.proofs.Numbered.{line_added, one_fewer, whole_text}
use Rattle.lab_report.proofs.writing.write_report.Goals as goal

pub loop-line-smaller : goal.loop-line-smaller
loop-line-smaller c = one_fewer (lines_of c.args.report.now) c.loop-line.place c.in-Some.line (sym c.in-Some.ensures.line)

pub loop-line-preserved : goal.loop-line-preserved
loop-line-preserved c =
    line_added (lines_of c.args.report.now) c.loop-line.place c.in-Some.line (string_bytes c.loop-line.text) (string_bytes c.add_line.new.text) (report_text c.args.report.now) (sym c.in-Some.ensures.line)
    c.in_ok-add_line.ensures c.loop-line.invariant

pub returns : goal.returns
returns c = record {
  text =
      ap (λ v. v.items) c.into_bytes.ensures.value
      ∙ whole_text (lines_of c.args.report.now) c.loop-line.place (string_bytes c.loop-line.text) (report_text c.args.report.now) (sym c.in_default.ensures.line) c.loop-line.invariant;
}
