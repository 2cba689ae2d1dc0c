use Rattle.std.proofs.Common.{refl}
use Rattle.axlab_core.specs.declared.load.LoadError.TheVariants.{Refused}
use Rattle.axlab_core.specs.declared.words.Form.TheVariants.{Lab}
use Rattle.axlab_core.specs.Input.{OfLab}
use Rattle.axlab_core.proofs.Asking.{asked_up_to_lab, asked_whole}
use Rattle.axlab_core.proofs.Ending.{delivers_as, ends_unloaded, reads_lab_input, reads_of_lab}
use Rattle.axlab_core.proofs.Loading.{explains_more, loads_both, rose_earlier, stops_first, stops_limits, stops_second}
use Rattle.axlab_core.proofs.run.answer_lab.Goals as goal

pub returns-in-Err-clause-ends : goal.returns-in-Err-clause-ends
returns-in-Err-clause-ends g c =
    rw c.status.ensures
    (ends_unloaded _ _ c.args.command c.args.notes.now.items c.in-Err.error c.requires.form c.requires.notes
    (explains_more c.in-Err.error _ _ _ _ _ (rw c.lab_name.ensures at c.in-Err.ensures.stops) (λ rose. rose) (λ stop loads. stops_first c.args.command _ _ _ stop loads)) refl refl
    (reads_of_lab _ c.args.command _ c.args.notes.now.items _ _ _ _ c.requires.form c.requires.notes
    (asked_up_to_lab c.args.command _ _ _ _ _ _ (rw c.lab_name.ensures at c.in-Err.ensures.asked))))

pub returns-in-Err-job-clause-ends : goal.returns-in-Err-job-clause-ends
returns-in-Err-job-clause-ends g c =
    ends_unloaded _ _ c.args.command c.args.notes.now.items (Refused c.in-Err-job.refusal) c.requires.form c.requires.notes
    (stops_limits c.args.command _ _ _ c.in-Ok.lab c.in-Err-job.refusal (rw c.lab_name.ensures at c.in-Ok.ensures.loads) c.in-Err-job.ensures.refused) refl refl
    (reads_of_lab _ c.args.command _ c.args.notes.now.items _ _ _ _ c.requires.form c.requires.notes
    (asked_up_to_lab c.args.command _ _ _ _ _ _ (rw c.lab_name.ensures at c.in-Ok.ensures.asked)))

pub returns-in-Ok-read_second-clause-ends : goal.returns-in-Ok-read_second-clause-ends
returns-in-Ok-read_second-clause-ends g c =
    delivers_as _ _ (OfLab c.in-Ok.lab c.in-Ok-read_second.second) c.serve-served.result c.deliver.result (Lab c.args.command) c.requires.form
    (reads_lab_input _ c.args.command c.args.notes.now.items _ c.requires.form c.requires.notes
    (loads_both c.args.command _ _ _ _ c.in-Ok.lab c.in-Ok-read_second.second c.in-Ok.ensures.held (rw c.lab_name.ensures at c.in-Ok.ensures.loads) c.in-Ok-job.ensures.kept
    (rw c.second_name.ensures at c.in-Ok-read_second.ensures.reads)))
    (rw c.in-Ok-job.ensures.job.asked at c.serve-served.ensures.served) c.deliver.ensures
    (reads_of_lab _ c.args.command _ c.args.notes.now.items _ _ _ _ c.requires.form c.requires.notes
    (asked_whole c.args.command _ _ _ _ _ _ _ (rw c.lab_name.ensures at c.in-Ok.ensures.all_asked) (rw c.second_name.ensures at c.in-Ok-read_second.ensures.asked)))

pub returns-clause-ends : goal.returns-clause-ends
returns-clause-ends g c =
    rw c.status-in-Err-read_second.ensures
    (ends_unloaded _ _ c.args.command c.args.notes.now.items c.in-Err-read_second.error c.requires.form c.requires.notes
    (explains_more c.in-Err-read_second.error _ _ _ _ _ (rw (c.second_name.ensures, c.in-Ok.ensures.held) at c.in-Err-read_second.ensures.stops)
    (rose_earlier _ _ _ c.in-Ok.ensures.later)
    (λ stop reads. stops_second c.args.command _ _ _ _ c.in-Ok.lab stop refl (rw c.lab_name.ensures at c.in-Ok.ensures.loads) c.in-Ok-job.ensures.kept reads)) refl refl
    (reads_of_lab _ c.args.command _ c.args.notes.now.items _ _ _ _ c.requires.form c.requires.notes
    (asked_whole c.args.command _ _ _ _ _ _ _ (rw c.lab_name.ensures at c.in-Ok.ensures.all_asked) (rw c.second_name.ensures at c.in-Err-read_second.ensures.asked))))
