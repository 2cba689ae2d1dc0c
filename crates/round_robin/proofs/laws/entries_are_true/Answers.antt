use Rattle.round_robin.proofs.ByRule.{entries_are}
use Rattle.round_robin.proofs.laws.entries_are_true.Goals as goal

pub returns : goal.returns
returns c = entries_are c.entrants_follow_their_rules.ensures c.lines_are_lowered.ensures c.lowered_tournaments_are_true.ensures c.tournaments_are_lowered.ensures
