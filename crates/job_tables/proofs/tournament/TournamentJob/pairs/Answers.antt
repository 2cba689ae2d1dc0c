use Rattle.std.proofs.Common.{arith}
use Rattle.job_tables.proofs.Pairing.{all_matches}
use Rattle.job_tables.proofs.tournament.TournamentJob.pairs.Goals as goal

pub returns-clause-ascending : goal.returns-clause-ascending
returns-clause-ascending c = (all_matches c.args.self.now c.args.count c.loop-field.field _ c.loop-field.invariant (omega arith)).ascending

pub returns-clause-within : goal.returns-clause-within
returns-clause-within c = (all_matches c.args.self.now c.args.count c.loop-field.field _ c.loop-field.invariant (omega arith)).within
