use Rattle.std.proofs.Common.{◌∙◌, ap, length, refl, arith}
use Rattle.std.proofs.lemmas.Result.{err_from_is_err_and}
use Rattle.lab_file.specs.Lab.{LabData}
use Rattle.axlab_core.proofs.Loading.{all_read, explains_more, next_step, none_yet, rose_earlier, stopped}
use Rattle.axlab_core.proofs.Fronts.{front_all}
use Rattle.axlab_core.proofs.Asking.{asked_all, asked_none_yet, asked_step, asked_stopped}
use Rattle.axlab_core.proofs.load.attach_files.Goals as goal

pub loop-place-init : goal.loop-place-init
loop-place-init g c = record {
  far = none_yet _ c.args.lab.now;
  asked = asked_none_yet _ c.args.lab.now.entries;
  held = refl;
  later = omega arith;
  last = c.len-place-end.ensures ∙ ap (λ (l : LabData). length l.entries) c.lab.view_is;
}

pub attach_file-requires : goal.attach_file-requires
attach_file-requires g c = record { inside = omega (arith, c.loop-place.invariant.far.as_many, c.loop-place.invariant.last, c.loop-place-test.true) }

pub returns-in_err-attach_file-clause-stops : goal.returns-in_err-attach_file-clause-stops
returns-in_err-attach_file-clause-stops g c =
    let p = err_from_is_err_and c.from_residual.result c.from_residual.ensures.1 in
    rw p.1 (rw p.2 (explains_more c.in_err-attach_file.field-0.0 _ _ _ _ _ (rw c.loop-place.invariant.held at c.in_err-attach_file.ensures.stops)
    (rose_earlier _ _ _ c.loop-place.invariant.later)
    (λ stop stops. stopped _ _ _ c.loop-place.place stop (omega (arith, c.loop-place.invariant.far.as_many, c.loop-place.invariant.last, c.loop-place-test.true)) c.loop-place.invariant.far stops)))

pub returns-in_err-attach_file-clause-held : goal.returns-in_err-attach_file-clause-held
returns-in_err-attach_file-clause-held g c = c.in_err-attach_file.ensures.held ∙ c.loop-place.invariant.held

pub returns-in_err-attach_file-clause-later : goal.returns-in_err-attach_file-clause-later
returns-in_err-attach_file-clause-later g c = omega (arith, c.in_err-attach_file.ensures.later, c.loop-place.invariant.later)

pub loop-place-preserved : goal.loop-place-preserved
loop-place-preserved g c = record {
  far = next_step _ _ c.loop-place.lab _ c.loop-place.place (omega (arith, c.loop-place.invariant.far.as_many, c.loop-place.invariant.last, c.loop-place-test.true)) c.loop-place.invariant.far
      (rw c.loop-place.invariant.held at c.in_ok-attach_file.ensures.attaches);
  asked = asked_step _ _ _ _ _ c.loop-place.lab _ c.loop-place.place (omega (arith, c.loop-place.invariant.far.as_many, c.loop-place.invariant.last, c.loop-place-test.true))
      c.loop-place.invariant.asked c.in_ok-attach_file.ensures.asked c.in_ok-attach_file.ensures.attaches;
  held = c.in_ok-attach_file.ensures.held ∙ c.loop-place.invariant.held;
  later = omega (arith, c.in_ok-attach_file.ensures.later, c.loop-place.invariant.later);
  last = c.loop-place.invariant.last;
}

pub returns-clause-attaches : goal.returns-clause-attaches
returns-clause-attaches g c = all_read _ _ _ c.loop-place.place (omega (arith, c.loop-place.invariant.far.as_many, c.loop-place.invariant.last, c.loop-place-test.false)) c.loop-place.invariant.far

pub returns-clause-held : goal.returns-clause-held
returns-clause-held g c = c.loop-place.invariant.held

pub returns-clause-later : goal.returns-clause-later
returns-clause-later g c = c.loop-place.invariant.later

pub returns-in_err-attach_file-clause-asked : goal.returns-in_err-attach_file-clause-asked
returns-in_err-attach_file-clause-asked g c =
    asked_stopped _ _ _ _ c.loop-place.lab.entries c.loop-place.place (omega (arith, c.loop-place.invariant.far.as_many, c.loop-place.invariant.last, c.loop-place-test.true))
    c.loop-place.invariant.asked c.in_err-attach_file.ensures.asked

pub returns-clause-asked : goal.returns-clause-asked
returns-clause-asked g c =
    front_all _ _ _ (asked_all _ _ _ c.loop-place.lab.entries c.loop-place.place
    (omega (arith, c.loop-place.invariant.far.as_many, c.loop-place.invariant.last, c.loop-place-test.false)) c.loop-place.invariant.asked)

pub returns-clause-all_asked : goal.returns-clause-all_asked
returns-clause-all_asked g c =
    asked_all _ _ _ c.loop-place.lab.entries c.loop-place.place
    (omega (arith, c.loop-place.invariant.far.as_many, c.loop-place.invariant.last, c.loop-place-test.false)) c.loop-place.invariant.asked
