use Rattle.std.proofs.Common.{◌≡◌, ◌≤◌, ◌*◌, ◌^◌}
use Rattle.std.specs.List.{sum_by}
use Rattle.lab_file.specs.Limits.{pair_work}
use Rattle.job_tables.specs.Tournament.{played_before}
use Rattle.lab_file.proofs.limits.tournament_work.Given as goal

abbrev pub invariant-loop-field : goal.invariant-loop-field
invariant-loop-field l = record {
  sum : l.work ≡ sum_by (pair_work l.notes.items l.entries l.job.turns) (played_before l.job l.count l.field);
  few : l.work ≤ l.field * 2 ^ 104;
}
