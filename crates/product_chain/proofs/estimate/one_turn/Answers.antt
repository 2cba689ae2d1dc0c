use Rattle.std.proofs.Common.{sym, subst, refl, ap, ◌∙◌, ◌*◌, ◌+◌}
use Rattle.history_model.specs.declared.moves.Move.TheVariants.{C, D}
use Rattle.history_model.specs.Game.{pay}
use Rattle.history_model.specs.Automaton.{Automaton}
use Rattle.product_chain.specs.Course.{AreWeights}
use Rattle.product_chain.proofs.Certain.{one_turn_is}
use Rattle.product_chain.proofs.estimate.one_turn.Goals as goal

pub returns : goal.returns
returns c =
    let s = c.args.side.now in
    let own = c.shown_weights-own_weights in
    let other = c.shown_weights-other_weights in
    let own_start = ap (λ (a : Automaton). a.start) c.own.view_is in
    let other_start = ap (λ (a : Automaton). a.start) c.other.view_is in
    let w = subst (λ z. AreWeights s.own.now s.own_noise.now z own.result) own_start own.ensures in
    let x = subst (λ z. AreWeights s.other.now s.other_noise.now z other.result) other_start other.ensures in
    let is = c.weighed.ensures ∙ ap (λ z. own.result.c * z + own.result.d * c.one_move-if_d.result) c.one_move-if_c.ensures.value
    ∙ ap (λ z. own.result.c * (other.result.c * pay s.game.now C C + other.result.d * pay s.game.now C D) + own.result.d * z) c.one_move-if_d.ensures.value in
    sym (one_turn_is s s.own.now.start s.other.now.start own.result.c own.result.d other.result.c other.result.d _ _ _ _ c.weighed.result
    w.c w.d x.c x.d refl refl refl refl is)
