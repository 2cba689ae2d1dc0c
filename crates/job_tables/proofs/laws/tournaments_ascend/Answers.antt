use Rattle.job_tables.proofs.Pairing.{matches_ascend}
use Rattle.job_tables.proofs.laws.tournaments_ascend.Goals as goal

pub returns : goal.returns
returns c = matches_ascend
