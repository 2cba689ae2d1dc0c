use Rattle.round_robin.proofs.TrueTournaments.{tournaments_are}
use Rattle.round_robin.proofs.laws.tournaments_are_true.Goals as goal

pub returns : goal.returns
returns c = tournaments_are c.lines_hold.ensures c.totals_hold_true_totals.ensures c.ranks_are_true.ensures
