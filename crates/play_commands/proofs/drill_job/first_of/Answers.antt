use Rattle.std.proofs.Common.{sym, ap, ◌∙◌}
use Rattle.play_commands.proofs.DrillLoops.{told_less, told_more}
use Rattle.play_commands.proofs.drill_job.first_of.Goals as goal
use Rattle.play_commands.proofs.drill_job.first_of.Goals.{then-leads+in_ok-push, else-leads}

pub loop-place-preserved : goal.loop-place-preserved
loop-place-preserved c = record {
  first = elim c.if-leads.branch [
    | then-leads+in_ok-push w ↦
        told_more c.args.entries.now c.loop-place.first.items c.if-leads.first.items _ _ c.loop-place.place _ c.loop-place-test.true (sym c.leads.ensures ∙ w.if-leads.true) w.total_at.ensures
        (ap (λ v. v.items) w.first-is ∙ w.in_ok-push.ensures.items) c.loop-place.invariant.first
    | else-leads w ↦ rw w.first-is (told_less c.args.entries.now c.loop-place.first.items _ c.loop-place.place _ c.loop-place-test.true (sym c.leads.ensures ∙ w.if-leads.false) c.loop-place.invariant.first)
  ];
  last = c.loop-place.invariant.last;
}
