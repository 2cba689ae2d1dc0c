use Rattle.job_tables.proofs.Pairing.{field_on, field_off}
use Rattle.job_tables.proofs.tournament.TournamentJob.played_at.Goals as goal

pub returns-then-is_played-clause-more : goal.returns-then-is_played-clause-more
returns-then-is_played-clause-more c = field_on c.args.self.now c.args.count c.args.field c.if-is_played.ensures

pub returns-else-is_played-clause-more : goal.returns-else-is_played-clause-more
returns-else-is_played-clause-more c = field_off c.args.self.now c.args.count c.args.field c.if-is_played.ensures
