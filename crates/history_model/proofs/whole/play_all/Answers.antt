use Rattle.std.proofs.Common.{rules, ◌∙◌, FitsSigned}
use Rattle.std.proofs.lemmas.Int.{to_z-of_z}
use Rattle.std.specs.Int.{w128}
use Rattle.history_model.proofs.Wholes.{expectation_is}
use Rattle.history_model.proofs.whole.play_all.Goals as goal

pub returns-clause-left : goal.returns-clause-left
returns-clause-left c =
    let ok = c.one_play.ensures.sides in
    let fits : FitsSigned w128 c.expected.result = search rules in
    rw to_z-of_z (c.expected.ensures ∙ expectation_is _ _ _ _ _ _ ok.own ok.own_rate ok.other ok.other_rate)

pub returns-clause-right : goal.returns-clause-right
returns-clause-right c =
    let ok = c.one_play.ensures.sides in
    let fits : FitsSigned w128 c.expected-2.result = search rules in
    rw to_z-of_z (c.expected-2.ensures ∙ expectation_is _ _ _ _ _ _ ok.other ok.other_rate ok.own ok.own_rate)
