use Rattle.std.proofs.Common.{◌∙◌, refl}
use Rattle.player_core.proofs.Growing.{none_fell_same}
use Rattle.match_play.proofs.Moving.{inside_states, loaded_plays}
use Rattle.match_play.proofs.Reading.{none_fell_after, same_kept, sure_there}
use Rattle.match_play.proofs.sureness.is_sure_on.Goals as goal

pub returns-clause-value : goal.returns-clause-value
returns-clause-value g c =
    sure_there _ _ _
    (loaded_plays c.one_change.ensures _ _ _ c.args.sheet.now (inside_states _ _ c.place_of-place.ensures.left_inside) c.load_place.ensures.states
    ∙ c.entries_play.ensures.left _ _ _ _ c.requires.fits c.place_of-place.ensures)
    c.is_sure_at.ensures.value

pub returns-clause-kept : goal.returns-clause-kept
returns-clause-kept g c =
    let left_kept = same_kept _ _ _ c.is_sure_at.ensures.lasting c.load_place.ensures.kept in
    let right_kept = c.keeping_lasts.ensures.none _ in
    record {
      fits = c.keeping_lasts.ensures.fits _ _ _ _ left_kept right_kept c.requires.fits;
      left_kept = left_kept;
      right_kept = right_kept;
    }

pub returns-clause-turns : goal.returns-clause-turns
returns-clause-turns g c = record { left = c.is_sure_at.ensures.turns ∙ c.load_place.ensures.turns; right = refl }

pub returns-clause-returns : goal.returns-clause-returns
returns-clause-returns g c = record {
  left = none_fell_after _ _ _ c.load_place.ensures.returns c.is_sure_at.ensures.returns;
  right = none_fell_same _;
}
