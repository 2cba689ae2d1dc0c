use Rattle.lookup_player.proofs.Following.{tables_follow}
use Rattle.lookup_player.proofs.laws.tables_follow_their_rule.Goals as goal

pub returns : goal.returns
returns c = tables_follow
