use Rattle.std.proofs.Common.{ap, ◌∙◌, arith}
use Rattle.checkpoint.proofs.RowLaws.{in_range, row_capped}
use Rattle.checkpoint.specs.Checkpoints.{row_by}
use Rattle.checkpoint.proofs.rows.row_at.Goals as goal

pub returns-clause-row : goal.returns-clause-row
returns-clause-row c =
    let pair = c.args.pair.now in
    c.row_by.ensures ∙ ap (row_by pair c.args.number c.args.at) c.row_in.ensures ∙ row_capped pair c.args.number c.args.at c.args.line.now (omega arith) (omega arith)

pub returns-clause-range : goal.returns-clause-range
returns-clause-range c =
    let pair = c.args.pair.now in
    in_range pair c.args.number c.args.at c.args.line.now c.row_by.result
    (c.row_by.ensures ∙ ap (row_by pair c.args.number c.args.at) c.row_in.ensures ∙ row_capped pair c.args.number c.args.at c.args.line.now (omega arith) (omega arith))
