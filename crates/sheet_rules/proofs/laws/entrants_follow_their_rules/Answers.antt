use Rattle.sheet_rules.proofs.ByKind.{follow_rules}
use Rattle.sheet_rules.proofs.laws.entrants_follow_their_rules.Goals as goal

pub returns : goal.returns
returns c =
    follow_rules c.vectors_follow_their_rule.ensures c.machines_follow_their_rule.ensures c.tables_follow_their_rule.ensures c.weights_decide.ensures
    c.path_is_one.ensures
