use Rattle.std.proofs.Common.{◌≡◌}
use Rattle.std.specs.List.{list_any}
use Rattle.lab_file.specs.Limits.{is_too_long}
use Rattle.job_tables.specs.Tournament.{played_before}
use Rattle.lab_file.proofs.limits.has_long_match.Given as goal

abbrev pub invariant-loop-field : goal.invariant-loop-field
invariant-loop-field l = l.long ≡ list_any (is_too_long l.notes.items l.entries l.job.turns) (played_before l.job l.count l.field)
