use Rattle.std.proofs.Common.{◌≡◌, List, Result, Ok, IfOk, IfErr, sym, subst, ◌∙◌}
use Rattle.std.proofs.lemmas.Result.{IfOk-weaker, err_from_is_err_and}
use Rattle.texts.specs.Grammar.{pieces}
use Rattle.rota_rows.specs.declared.row.RotaRow.{RotaRow}
use Rattle.checkpoint.specs.declared.fault.Fault.{Fault}
use Rattle.checkpoint.specs.Checkpoints.{checkpoint_of}
use Rattle.checkpoint.specs.Errors.{Tells}
use Rattle.checkpoint.specs.Exact.{AreRowsFor}
use Rattle.checkpoint.proofs.LineLaws.{tells_fault, whole_fault, whole_is}
use Rattle.checkpoint.proofs.reading.read_rows.Goals as goal

pub returns-in_err-at-clause-fault : goal.returns-in_err-at-clause-fault
returns-in_err-at-clause-fault c =
    let p = err_from_is_err_and c.from_residual.result c.from_residual.ensures.1 in
    let read = checkpoint_of c.args.head.now c.args.expected.now c.args.game.now c.args.offset c.args.bytes.now in
    rw (p.1, p.2)
    (tells_fault read c.in_err-at.field-0.0 (whole_fault c.args.head.now c.args.expected.now c.args.game.now c.args.offset c.args.bytes.now c.in_err-at.field-0.0 c.in_err-at.ensures.fault))

pub returns-clause-rows : goal.returns-clause-rows
returns-clause-rows c =
    let whole = whole_is c.args.head.now c.args.expected.now c.args.game.now c.args.offset c.args.bytes.now c.in_ok-at.at (pieces c.in_ok-at.rest.now) c.in_ok-at.ensures.rest in
    subst (λ (read : Result (List RotaRow) Fault). IfOk c.read_matches.result (λ rows. read ≡ Ok rows)) (sym whole) c.read_matches.ensures.rows

pub returns-clause-fault : goal.returns-clause-fault
returns-clause-fault c =
    let whole = whole_is c.args.head.now c.args.expected.now c.args.game.now c.args.offset c.args.bytes.now c.in_ok-at.at (pieces c.in_ok-at.rest.now) c.in_ok-at.ensures.rest in
    subst (λ (read : Result (List RotaRow) Fault). IfErr c.read_matches.result (Tells read)) (sym whole) c.read_matches.ensures.fault

pub returns-clause-range : goal.returns-clause-range
returns-clause-range c =
    let whole = whole_is c.args.head.now c.args.expected.now c.args.game.now c.args.offset c.args.bytes.now c.in_ok-at.at (pieces c.in_ok-at.rest.now) c.in_ok-at.ensures.rest in
    IfOk-weaker c.read_matches.result _ (AreRowsFor c.args.expected.now)
    (λ rows is. c.checkpoints_are_exact.ensures.range c.args.head.now c.args.expected.now c.args.game.now c.args.offset c.args.bytes.now rows (whole ∙ is)) c.read_matches.ensures.rows
