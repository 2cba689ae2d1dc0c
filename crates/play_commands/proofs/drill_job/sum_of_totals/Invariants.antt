use Rattle.play_commands.proofs.DrillLoops.{IsSumUpTo}
use Rattle.play_commands.proofs.drill_job.sum_of_totals.Given as goal

abbrev pub invariant-loop-entry : goal.invariant-loop-entry
invariant-loop-entry l = IsSumUpTo l.entry-index l.sum l.entries
