use Rattle.std.proofs.Common.{◌∙◌, subst}
use Rattle.history_model.specs.Automaton.{IsAutomaton}
use Rattle.std.proofs.lemmas.Result.{IfOk-weaker}
use Rattle.match_play.proofs.Moving.{inside_states, loaded_plays}
use Rattle.match_play.proofs.Reading.{read_at_most, same_kept, side_read}
use Rattle.match_play.proofs.grids.tabulate_sheet.Goals as goal

pub returns-clause-grid : goal.returns-clause-grid
returns-clause-grid g c =
    IfOk-weaker c.tabulate_at.result _ _
    (λ grid is. is ∙ loaded_plays c.one_change.ensures _ _ _ c.args.sheet.now (inside_states _ _ c.place_of-place.ensures.left_inside) c.load_place.ensures.states
    ∙ c.entries_play.ensures.left _ _ _ _ c.requires.fits c.place_of-place.ensures)
    c.tabulate_at.ensures.grid

pub returns-clause-valid : goal.returns-clause-valid
returns-clause-valid g c =
    subst IsAutomaton (loaded_plays c.one_change.ensures _ _ _ c.args.sheet.now (inside_states _ _ c.place_of-place.ensures.left_inside) c.load_place.ensures.states
    ∙ c.entries_play.ensures.left _ _ _ _ c.requires.fits c.place_of-place.ensures)
    c.tabulate_at.ensures.valid.automaton

pub returns-clause-advanced : goal.returns-clause-advanced
returns-clause-advanced g c =
    IfOk-weaker c.tabulate_at.result _ _
    (λ grid counted.
    side_read c.one_change.ensures c.counts_add_up.ensures _ _ _ _ c.args.sheet.now _ (inside_states _ _ c.place_of-place.ensures.left_inside) c.load_place.ensures.states c.tabulate_at.ensures.valid
    (loaded_plays c.one_change.ensures _ _ _ c.args.sheet.now (inside_states _ _ c.place_of-place.ensures.left_inside) c.load_place.ensures.states
    ∙ c.entries_play.ensures.left _ _ _ _ c.requires.fits c.place_of-place.ensures)
    counted)
    c.tabulate_at.ensures.advanced

pub returns-clause-most : goal.returns-clause-most
returns-clause-most g c =
    read_at_most _ _ _ c.place_of-place.result _ c.load_place.ensures.turns
    (loaded_plays c.one_change.ensures _ _ _ c.args.sheet.now (inside_states _ _ c.place_of-place.ensures.left_inside) c.load_place.ensures.states
    ∙ c.entries_play.ensures.left _ _ _ _ c.requires.fits c.place_of-place.ensures)
    c.tabulate_at.ensures.most

pub returns-clause-kept : goal.returns-clause-kept
returns-clause-kept g c =
    let left_kept = same_kept _ _ _ c.tabulate_at.ensures.lasting c.load_place.ensures.kept in
    let right_kept = c.keeping_lasts.ensures.none _ in
    record {
      fits = c.keeping_lasts.ensures.fits _ _ _ _ left_kept right_kept c.requires.fits;
      left_kept = left_kept;
      right_kept = right_kept;
    }
