use Rattle.std.proofs.Common.{◌+◌, ◌*◌}
use Rattle.history_model.proofs.whole.+expected.Given as goal

abbrev pub decreases-expected_from : goal.decreases-expected_from
decreases-expected_from l = 2 * l.n

abbrev pub decreases-expected_with : goal.decreases-expected_with
decreases-expected_with l = 2 * l.rest + 1
