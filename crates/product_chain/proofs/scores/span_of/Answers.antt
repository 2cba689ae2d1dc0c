use Rattle.std.proofs.Common.{◌*◌, ◌≡◌, ap, subst, ◌∙◌}
use Rattle.history_model.specs.Game.{least, most}
use Rattle.fixed_span.specs.Span.{score_units}
use Rattle.product_chain.specs.Estimate.{IsEnds}
use Rattle.product_chain.proofs.Estimating.{can_end, score_from}
use Rattle.product_chain.proofs.scores.span_of.Goals as goal

pub ends-requires-clause-room : goal.ends-requires-clause-room
ends-requires-clause-room c =
    let floor = c.limit-floor.ensures.value ∙ ap (λ z. c.args.turns * z * score_units) c.least_of.ensures.value in
    let roof = c.limit-roof.ensures.value ∙ ap (λ z. c.args.turns * z * score_units) c.most_of.ensures.value in
    can_end c.args.side.now c.args.turns c.limit-floor.result c.limit-roof.result c.args.estimate.now c.requires.valid floor roof c.requires.estimate

pub returns-clause-score : goal.returns-clause-score
returns-clause-score c =
    let s = c.args.side.now in
    let n = c.args.turns in
    let x = c.args.estimate.now in
    let floor : c.limit-floor.result ≡ n * least s.game.now * score_units = c.limit-floor.ensures.value ∙ ap (λ z. n * z * score_units) c.least_of.ensures.value in
    let roof : c.limit-roof.result ≡ n * most s.game.now * score_units = c.limit-roof.ensures.value ∙ ap (λ z. n * z * score_units) c.most_of.ensures.value in
    let ends : IsEnds x.value x.err x.scale (n * least s.game.now * score_units) (n * most s.game.now * score_units) c.ends.result =
    subst (λ z. IsEnds x.value x.err x.scale (n * least s.game.now * score_units) z c.ends.result) roof (subst (λ z. IsEnds x.value x.err x.scale z c.limit-roof.result c.ends.result) floor c.ends.ensures) in
    score_from s n x c.ends.result c.requires.valid c.requires.some_turns c.requires.estimate c.requires.one_turn ends
