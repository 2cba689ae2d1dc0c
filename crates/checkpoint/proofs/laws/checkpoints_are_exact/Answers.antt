use Rattle.checkpoint.proofs.Again.{exact}
use Rattle.checkpoint.proofs.laws.checkpoints_are_exact.Goals as goal

pub returns : goal.returns
returns c = exact (record { cuts = c.cuts_are_exact.ensures; numbers = c.numbers_are_exact.ensures; points = c.signed_points_are_exact.ensures }) c.rota_lines_are_exact.ensures
