use Rattle.plug_players.proofs.Walks.{follows_rule}
use Rattle.plug_players.proofs.laws.builtins_follow_their_rules.Goals as goal

pub returns : goal.returns
returns c = follows_rule
