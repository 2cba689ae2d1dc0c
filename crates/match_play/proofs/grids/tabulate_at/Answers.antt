use Rattle.std.proofs.Common.{◌*◌, ◌∙◌, ap, length}
use Rattle.std.proofs.lemmas.Result.{IfOk-weaker}
use Rattle.player_core.specs.State.{PlayerState, no_state}
use Rattle.player_core.proofs.Sides.{map_read}
use Rattle.match_play.proofs.Reading.{one_at_most, one_counted}
use Rattle.match_play.proofs.grids.tabulate_at.Goals as goal

pub returns-clause-advanced : goal.returns-clause-advanced
returns-clause-advanced g c =
    IfOk-weaker c.tabulate.result _ _
    (λ grid counted. one_counted c.one_change.ensures _ _ _ _ _ (λ s. 4 * length s.lasting.automaton.rows) c.requires c.index_mut.ensures.value c.rows_at-rows.ensures.valid.turns_fit counted)
    c.tabulate.ensures.turns

pub returns-clause-grid : goal.returns-clause-grid
returns-clause-grid g c =
    IfOk-weaker c.tabulate.result _ _
    (λ grid is. is ∙ ap (λ (s : PlayerState). s.lasting.automaton) (map_read _ _ _ _ no_state c.requires c.index_mut.ensures.value))
    c.tabulate.ensures.grid

pub returns-clause-most : goal.returns-clause-most
returns-clause-most g c =
    one_at_most _ _ _ _ _ (λ s. 4 * length s.lasting.automaton.rows) c.requires c.index_mut.ensures.value c.tabulate.ensures.most_turns
