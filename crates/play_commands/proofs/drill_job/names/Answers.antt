use Rattle.play_commands.proofs.DrillLoops.{name_more}
use Rattle.play_commands.proofs.drill_job.names.Goals as goal

pub loop-place-preserved : goal.loop-place-preserved
loop-place-preserved c = name_more c.loop-place.names.items _ _ _ c.loop-place.place 64 c.loop-place-test.true c.drill_name.ensures c.in_ok-push.ensures.items c.loop-place.invariant
