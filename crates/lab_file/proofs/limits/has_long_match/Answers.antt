use Rattle.std.proofs.Common.{sym, ◌∙◌}
use Rattle.lab_file.specs.Limits.{is_too_long}
use Rattle.lab_file.proofs.Keeping.{long_kept, long_more, any_passed}
use Rattle.lab_file.proofs.limits.has_long_match.Goals as goal
use Rattle.lab_file.proofs.limits.has_long_match.Goals.{in-Some+then-long, in-Some+else-long, in_default}

pub loop-field-preserved : goal.loop-field-preserved
loop-field-preserved c =
    let test = is_too_long c.args.notes.now.items c.args.entries.now c.args.job.now.turns in
    elim c.match-played_at.branch [
      | in-Some+then-long w ↦
          w.long-is ∙ long_kept test c.args.job.now c.len-count.result c.loop-field.field _ w.in-Some.pair _ c.played_at.ensures.more w.in-Some.is c.loop-field.invariant w.if-long.true
      | in-Some+else-long w ↦
          w.long-is ∙ long_more test c.args.job.now c.len-count.result c.loop-field.field _ w.in-Some.pair c.loop-field.long _ c.played_at.ensures.more w.in-Some.is c.loop-field.invariant w.if-long.false w.is_too_long-long.ensures
      | in_default w ↦
          w.long-is ∙ c.loop-field.invariant ∙ sym (any_passed test c.args.job.now c.len-count.result c.loop-field.field _ c.played_at.ensures.more w.in_default.is)
    ]
