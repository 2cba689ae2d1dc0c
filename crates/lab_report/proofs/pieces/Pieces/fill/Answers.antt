use Rattle.std.proofs.Common.{List, ℕ, ◌++◌, length, take, drop, ap, ◌∙◌, arith}
use Rattle.lab_report.specs.Pieces.{to_come}
use Rattle.report_rules.specs.Text.{lines_of, text_of_lines}
use Rattle.lab_report.proofs.Piecing.{front_is, rest_is}
use Rattle.lab_report.proofs.pieces.Pieces.fill.Goals as goal

pub returns-clause-front : goal.returns-clause-front
returns-clause-front c =
    let made = c.make_ready.new.self in
    let count = c.min-count.result in
    let long = ap length c.deref.ensures.value in
    c.in_ok-extend_from_slice.ensures.items
    ∙ ap (λ xs. c.clear.new.self.items ++ take count xs) c.deref.ensures.value
    ∙ ap (λ xs. xs ++ take count made.ready.items) c.clear.ensures.items
    ∙ front_is made.ready.items (text_of_lines (drop made.next (lines_of made.report.now))) (to_come c.args.self.now) count c.in_ok-make_ready.ensures.ready c.in_ok-make_ready.ensures.stays
    (omega (arith, c.min-count.ensures, c.len.ensures, c.deref.ensures.len, long))

pub returns-clause-rest : goal.returns-clause-rest
returns-clause-rest c =
    let made = c.make_ready.new.self in
    let rest : List ℕ = text_of_lines (drop made.next (lines_of made.report.now)) in
    let long = ap length c.deref.ensures.value in
    ap (λ xs. xs ++ rest) c.cut_front.ensures
    ∙ rest_is made.ready.items rest (to_come c.args.self.now) c.min-count.result c.in_ok-make_ready.ensures.ready c.in_ok-make_ready.ensures.stays
    (omega (arith, c.min-count.ensures, c.len.ensures, c.deref.ensures.len, long))
