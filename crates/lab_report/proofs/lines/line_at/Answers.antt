use Rattle.std.proofs.Common.{◌≡◌, ◌≤◌, ◌∙◌, ◌++◌, ◌∷◌, [], slice_get, sym, arith}
use Rattle.report_lines.specs.declared.line.Line.TheVariants as lines
use Rattle.report_rules.specs.Text.{kind_of, body_lines, first_line, lab_lines, lines_of, own_lines}
use Rattle.lab_report.proofs.Numbered.{behind_lab, in_lab, so_there}
use Rattle.lab_report.proofs.lines.line_at.Goals as goal

pub returns-then-behind-lab : goal.returns-then-behind-lab
returns-then-behind-lab c =
    let r = c.args.report.now in
    let some : 1 ≤ c.args.index = omega (arith, c.if-index-eq0.false) in
    let line : c.lab_at.result ≡ slice_get (lines_of r) c.args.index =
    c.lab_at.ensures
    ∙ sym (in_lab (first_line r.version (kind_of r.body)) (lab_lines (kind_of r.body) r.offset r.game r.noise (own_lines r.names r.noises)) (body_lines r.names r.body ++ lines.End ∷ []) c.args.index c.lab_count-lab.result c.lab_count-lab.ensures some
    (omega (arith, c.if-behind-lab.true))) in
    let so = so_there r c.args.index c.lab_at.result c.requires.valid line in
    record { line = line; printable = so.0; few = so.1 }

pub returns-else-behind-lab : goal.returns-else-behind-lab
returns-else-behind-lab c =
    let r = c.args.report.now in
    let some : 1 ≤ c.args.index = omega (arith, c.if-index-eq0.false) in
    let line : c.body_line.result ≡ slice_get (lines_of r) c.args.index =
    c.body_line.ensures
    ∙ sym (behind_lab (first_line r.version (kind_of r.body)) (lab_lines (kind_of r.body) r.offset r.game r.noise (own_lines r.names r.noises)) (body_lines r.names r.body ++ lines.End ∷ []) c.args.index c.lab_count-lab.result c.lab_count-lab.ensures some
    (omega (arith, c.if-behind-lab.false))) in
    let so = so_there r c.args.index c.body_line.result c.requires.valid line in
    record { line = line; printable = so.0; few = so.1 }
