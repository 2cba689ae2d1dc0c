use Rattle.std.proofs.Common.{◌≡◌, subst}
use Rattle.history_model.specs.declared.moves.Move.TheVariants.{C, D}
use Rattle.history_model.specs.Automaton.{Automaton, plain_row}
use Rattle.history_model.specs.Expectation.{shown}
use Rattle.best_turns.specs.Meeting.{met}
use Rattle.best_turns.proofs.Stances.{stance_is}
use Rattle.best_turns.proofs.meeting.stance_at.Goals as goal

pub returns : goal.returns
returns c =
    let noise = c.args.meeting.now.noise.now in
    let weight = c.row-at.result.weight in
    stance_is (met c.args.meeting.now) c.args.row (plain_row c.row-at.result) _ c.row-at.ensures.automaton c.requires c.row-at.ensures.row
    (subst (λ (a : Automaton). c.shown_by-c.result.0 ≡ shown noise a.den weight C) c.opponent.view_is c.shown_by-c.ensures.c)
    (subst (λ (a : Automaton). c.shown_by-c.result.1 ≡ shown noise a.den weight D) c.opponent.view_is c.shown_by-c.ensures.d)
    c.shown_by-c.ensures.few c.next_after.ensures c.next_after-2.ensures c.next_after-3.ensures c.next_after-4.ensures
