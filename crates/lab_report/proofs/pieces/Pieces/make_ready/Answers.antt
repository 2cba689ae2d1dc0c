use Rattle.std.proofs.Common.{◌≡◌, List, ℕ, [], ◌∷◌, ◌++◌, ap, sym, ◌∙◌, inr}
use Rattle.lab_report.specs.Pieces.{to_come}
use Rattle.report_rules.specs.Text.{lines_of, text_of_lines}
use Rattle.lab_report.proofs.Numbered.{line_added, no_text, one_fewer}
use Rattle.lab_report.proofs.pieces.Pieces.make_ready.Goals as goal

pub returns-in_default-clause-ready : goal.returns-in_default-clause-ready
returns-in_default-clause-ready c = inr (no_text (lines_of c.loop-line.self.report.now) c.loop-line.self.next (sym c.in_default.ensures.line))

pub loop-line-smaller : goal.loop-line-smaller
loop-line-smaller c = one_fewer (lines_of c.loop-line.self.report.now) c.loop-line.self.next c.in-Some.line (sym c.in-Some.ensures.line)

pub loop-line-preserved : goal.loop-line-preserved
loop-line-preserved c =
    let ready = c.loop-line.self.ready.items in
    let added : c.extend_from_slice.new.self.items ≡ ready ++ text_of_lines (c.in-Some.line ∷ []) =
    c.in_ok-extend_from_slice.ensures.items
    ∙ ap (λ (t : List ℕ). ready ++ t) (c.as_bytes.ensures.value ∙ c.in_ok-add_line.ensures ∙ ap (λ (t : List ℕ). t ++ text_of_lines (c.in-Some.line ∷ [])) c.clear.ensures.bytes) in
    line_added (lines_of c.loop-line.self.report.now) c.loop-line.self.next c.in-Some.line ready c.extend_from_slice.new.self.items (to_come c.args.self.now) (sym c.in-Some.ensures.line) added c.loop-line.invariant
