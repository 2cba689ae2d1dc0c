use Rattle.std.proofs.Common.{sym}
use Rattle.job_tables.proofs.Joining.{edge_push}
use Rattle.job_tables.proofs.tournament.edge_of.Goals as goal

pub returns-clause-sound : goal.returns-clause-sound
returns-clause-sound c = edge_push _ _ (record { left = c.in_ok-left.left; right = c.in_ok-right.right }) c.requires.sound c.in_ok-left.ensures.within c.in_ok-right.ensures.within (sym c.if-is_doubled.ensures)
