use Rattle.std.proofs.lemmas.Result.{err_from_is_err_and}
use Rattle.axlab_core.proofs.Loading.{explains_file, explains_read, reads_lab, reads_nothing}
use Rattle.axlab_core.proofs.load.read_first.Goals as goal

pub returns-in_err-bytes-clause-stops : goal.returns-in_err-bytes-clause-stops
returns-in_err-bytes-clause-stops g c =
    let p = err_from_is_err_and c.from_residual.result c.from_residual.ensures.1 in
    rw p.1 (rw p.2 (explains_read c.in_err-bytes.field-0.0 _ _ c.args.name.now _ c.in_err-bytes.ensures.fails (reads_nothing _ _ _)))

pub returns-in_err-lab-clause-stops : goal.returns-in_err-lab-clause-stops
returns-in_err-lab-clause-stops g c =
    let p = err_from_is_err_and c.from_residual-in_err-lab.result c.from_residual-in_err-lab.ensures.1 in
    rw p.1 (rw p.2 (explains_file _ c.in_err-lab.field-0.0 _ _ _ c.in_err-lab.ensures
    (λ refusal. reads_lab _ _ _ c.in_ok-bytes.bytes.items _ _ c.in_ok-bytes.ensures.front c.as_slice.ensures.value)))

pub returns-clause-reads : goal.returns-clause-reads
returns-clause-reads g c = reads_lab _ _ _ c.in_ok-bytes.bytes.items _ _ c.in_ok-bytes.ensures.front c.as_slice.ensures.value c.in_ok-lab.ensures
