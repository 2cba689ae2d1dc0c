use Rattle.std.proofs.Common.{◌∙◌, sym, ap}
use Rattle.std.proofs.lemmas.Result.{err_from_is_err_and}
use Rattle.lab_file.specs.declared.lab.Entry.{Entry}
use Rattle.lab_file.specs.Lab.{LabData, entry_at}
use Rattle.axlab_core.proofs.Loading.{attaches_file, attaches_ready, explains_file, explains_read, stops_missing, stops_refused}
use Rattle.axlab_core.proofs.Asking.{asked_file, asked_ready}
use Rattle.axlab_core.proofs.load.attach_file.Goals as goal

pub returns-in_default-clause-attaches : goal.returns-in_default-clause-attaches
returns-in_default-clause-attaches g c =
    let is = ap (λ (l : LabData). (entry_at l.entries c.args.place).draft) (sym c.lab.view_is) ∙ (sym (ap (λ (e : Entry). e.draft) c.at.ensures) ∙ c.in_default.is) in
    attaches_ready _ c.args.place c.args.lab.now _ c.requires.inside is tt

pub returns-in_err-bytes-clause-stops : goal.returns-in_err-bytes-clause-stops
returns-in_err-bytes-clause-stops g c =
    let is = ap (λ (l : LabData). (entry_at l.entries c.args.place).draft) (sym c.lab.view_is) ∙ (sym (ap (λ (e : Entry). e.draft) c.at.ensures) ∙ c.in-FromFile.is) in
    let p = err_from_is_err_and c.from_residual.result c.from_residual.ensures.1 in
    rw p.1 (rw p.2 (explains_read c.in_err-bytes.field-0.0 _ _ c.text.result.now _ c.in_err-bytes.ensures.fails
    (stops_missing _ c.args.place c.args.lab.now c.in-FromFile.machine c.text.result.now is c.text.ensures.value)))

pub returns-in_err-attach-clause-stops : goal.returns-in_err-attach-clause-stops
returns-in_err-attach-clause-stops g c =
    let is = ap (λ (l : LabData). (entry_at l.entries c.args.place).draft) (sym c.lab.view_is) ∙ (sym (ap (λ (e : Entry). e.draft) c.at.ensures) ∙ c.in-FromFile.is) in
    let p = err_from_is_err_and c.from_residual-in_err-attach.result c.from_residual-in_err-attach.ensures.1 in
    rw p.1 (rw p.2 (explains_file _ c.in_err-attach.field-0.0 _ _ _ c.in_err-attach.ensures.refused
    (λ refusal. stops_refused _ c.args.place c.args.lab.now c.in-FromFile.machine c.text.result.now c.in_ok-bytes.bytes.items c.as_slice.result.now refusal is c.text.ensures.value c.in_ok-bytes.ensures.front c.as_slice.ensures.value)))

pub returns-clause-attaches : goal.returns-clause-attaches
returns-clause-attaches g c =
    let is = ap (λ (l : LabData). (entry_at l.entries c.args.place).draft) (sym c.lab.view_is) ∙ (sym (ap (λ (e : Entry). e.draft) c.at.ensures) ∙ c.in-FromFile.is) in
    attaches_file _ c.args.place c.args.lab.now _ c.in-FromFile.machine c.text.result.now c.in_ok-bytes.bytes.items c.as_slice.result.now is c.text.ensures.value c.in_ok-bytes.ensures.front c.as_slice.ensures.value c.in_ok-attach.ensures.attached

pub returns-in_default-clause-asked : goal.returns-in_default-clause-asked
returns-in_default-clause-asked g c =
    let is = ap (λ (l : LabData). (entry_at l.entries c.args.place).draft) (sym c.lab.view_is) ∙ (sym (ap (λ (e : Entry). e.draft) c.at.ensures) ∙ c.in_default.is) in
    asked_ready _ _ _ is tt

pub returns-in_err-bytes-clause-asked : goal.returns-in_err-bytes-clause-asked
returns-in_err-bytes-clause-asked g c =
    let is = ap (λ (l : LabData). (entry_at l.entries c.args.place).draft) (sym c.lab.view_is) ∙ (sym (ap (λ (e : Entry). e.draft) c.at.ensures) ∙ c.in-FromFile.is) in
    asked_file _ _ c.text.result.now _ c.in-FromFile.machine is c.text.ensures.value c.in_err-bytes.ensures.asked

pub returns-in_err-attach-clause-asked : goal.returns-in_err-attach-clause-asked
returns-in_err-attach-clause-asked g c =
    let is = ap (λ (l : LabData). (entry_at l.entries c.args.place).draft) (sym c.lab.view_is) ∙ (sym (ap (λ (e : Entry). e.draft) c.at.ensures) ∙ c.in-FromFile.is) in
    asked_file _ _ c.text.result.now _ c.in-FromFile.machine is c.text.ensures.value c.in_ok-bytes.ensures.asked

pub returns-clause-asked : goal.returns-clause-asked
returns-clause-asked g c =
    let is = ap (λ (l : LabData). (entry_at l.entries c.args.place).draft) (sym c.lab.view_is) ∙ (sym (ap (λ (e : Entry). e.draft) c.at.ensures) ∙ c.in-FromFile.is) in
    asked_file _ _ c.text.result.now _ c.in-FromFile.machine is c.text.ensures.value c.in_ok-bytes.ensures.asked
