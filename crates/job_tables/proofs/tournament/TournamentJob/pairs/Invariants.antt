use Rattle.std.proofs.Common.{◌≡◌}
use Rattle.job_tables.specs.Tournament.{played_before}
use Rattle.job_tables.proofs.tournament.TournamentJob.pairs.Given as goal

abbrev pub invariant-loop-field : goal.invariant-loop-field
invariant-loop-field l = l.pairs.items ≡ played_before l.self l.count l.field
