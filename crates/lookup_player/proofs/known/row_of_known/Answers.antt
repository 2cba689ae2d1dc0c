use Rattle.std.proofs.Common.{arith}
use Rattle.lookup_player.specs.Lookup.{as_seen}
use Rattle.lookup_player.proofs.Tables.{row_fits}
use Rattle.lookup_player.proofs.known.row_of_known.Goals as goal

pub overflow_add-result-3 : goal.overflow_add-result-3
overflow_add-result-3 c =
    rw (c.others-others.ensures.value, c.firsts-firsts.ensures.value, c.requires.fewer)
    (omega (arith, row_fits c.args.sheet.now (as_seen c.args.known) (c.shape.ensures.lookup c.requires.table) c.requires.seen))
