use Rattle.std.proofs.Common.{◌∙◌, ap, refl}
use Rattle.history_model.specs.History.{turned}
use Rattle.std.proofs.lemmas.List.{length-map}
use Rattle.match_play.proofs.Moving.{inside_states, counted_on, loaded_plays, is_automaton_too, is_sure_too, same_tally, same_path, has_played, as_long, side_kept, side_advanced}
use Rattle.match_play.proofs.on_bench.play_sheets.Goals as goal

pub play_at-requires-clause-sure_left : goal.play_at-requires-clause-sure_left
play_at-requires-clause-sure_left g c =
    is_sure_too _ _
    (loaded_plays c.one_change.ensures _ _ _ c.args.left.now (inside_states _ _ c.place_of-i.ensures.left_inside) c.load.ensures.left
    ∙ c.entries_play.ensures.left _ _ _ _ c.requires.fits c.place_of-i.ensures)
    c.requires.sure_left

pub play_at-requires-clause-sure_right : goal.play_at-requires-clause-sure_right
play_at-requires-clause-sure_right g c =
    is_sure_too _ _
    (loaded_plays c.one_change.ensures _ _ _ c.args.right.now (inside_states _ _ c.place_of-j.ensures.right_inside) c.load.ensures.right
    ∙ c.entries_play.ensures.right _ _ _ _ c.requires.fits c.place_of-j.ensures)
    c.requires.sure_right

pub returns-clause-left_valid : goal.returns-clause-left_valid
returns-clause-left_valid g c =
    is_automaton_too _ _
    (loaded_plays c.one_change.ensures _ _ _ c.args.left.now (inside_states _ _ c.place_of-i.ensures.left_inside) c.load.ensures.left
    ∙ c.entries_play.ensures.left _ _ _ _ c.requires.fits c.place_of-i.ensures)
    c.play_at.ensures.left_valid.automaton

pub returns-clause-right_valid : goal.returns-clause-right_valid
returns-clause-right_valid g c =
    is_automaton_too _ _
    (loaded_plays c.one_change.ensures _ _ _ c.args.right.now (inside_states _ _ c.place_of-j.ensures.right_inside) c.load.ensures.right
    ∙ c.entries_play.ensures.right _ _ _ _ c.requires.fits c.place_of-j.ensures)
    c.play_at.ensures.right_valid.automaton

pub returns-clause-tally : goal.returns-clause-tally
returns-clause-tally g c =
    same_tally _ _ _ _ _ _
    (loaded_plays c.one_change.ensures _ _ _ c.args.left.now (inside_states _ _ c.place_of-i.ensures.left_inside) c.load.ensures.left
    ∙ c.entries_play.ensures.left _ _ _ _ c.requires.fits c.place_of-i.ensures)
    (loaded_plays c.one_change.ensures _ _ _ c.args.right.now (inside_states _ _ c.place_of-j.ensures.right_inside) c.load.ensures.right
    ∙ c.entries_play.ensures.right _ _ _ _ c.requires.fits c.place_of-j.ensures)
    c.play_at.ensures.tally

pub returns-clause-kept : goal.returns-clause-kept
returns-clause-kept g c =
    let left_kept =
    side_kept c.keeping_lasts.ensures c.one_change.ensures _ _ _ _ _ c.args.left.now _ (record {
      inside = inside_states _ _ c.place_of-i.ensures.left_inside;
      load = c.load.ensures.left;
      kept = c.load.ensures.kept.left_kept;
      played = c.play_at.ensures.left;
      lasting = refl;
      counted = counted_on _ _ _ (as_long c.counts_are_paid.ensures _ _ _ c.play_at.ensures.tally c.play_at.ensures.total);
      valid = c.play_at.ensures.left_valid;
    }) in
    let right_kept =
    side_kept c.keeping_lasts.ensures c.one_change.ensures _ _ _ _ _ c.args.right.now _ (record {
      inside = inside_states _ _ c.place_of-j.ensures.right_inside;
      load = c.load.ensures.right;
      kept = c.load.ensures.kept.right_kept;
      played = c.play_at.ensures.right;
      lasting = refl;
      counted = counted_on _ _ _ (length-map _ _ ∙ as_long c.counts_are_paid.ensures _ _ _ c.play_at.ensures.tally c.play_at.ensures.total);
      valid = c.play_at.ensures.right_valid;
    }) in
    record {
      fits = c.keeping_lasts.ensures.fits _ _ _ _ left_kept right_kept c.requires.fits;
      left_kept = left_kept;
      right_kept = right_kept;
    }

pub returns-clause-advanced : goal.returns-clause-advanced
returns-clause-advanced g c = record {
  left = side_advanced c.one_change.ensures c.counts_add_up.ensures _ _ _ _ _ c.args.left.now _ (record {
    inside = inside_states _ _ c.place_of-i.ensures.left_inside;
    load = c.load.ensures.left;
    kept = c.load.ensures.kept.left_kept;
    played = c.play_at.ensures.left;
    lasting = refl;
    counted = counted_on _ _ _ (as_long c.counts_are_paid.ensures _ _ _ c.play_at.ensures.tally c.play_at.ensures.total);
    valid = c.play_at.ensures.left_valid;
  });
  right = side_advanced c.one_change.ensures c.counts_add_up.ensures _ _ _ _ _ c.args.right.now _ (record {
    inside = inside_states _ _ c.place_of-j.ensures.right_inside;
    load = c.load.ensures.right;
    kept = c.load.ensures.kept.right_kept;
    played = c.play_at.ensures.right;
    lasting = refl;
    counted = counted_on _ _ _ (length-map _ _ ∙ as_long c.counts_are_paid.ensures _ _ _ c.play_at.ensures.tally c.play_at.ensures.total);
    valid = c.play_at.ensures.right_valid;
  });
}

pub returns-clause-played : goal.returns-clause-played
returns-clause-played g c = record {
  on_the_left = has_played c.one_change.ensures _ _ _ c.place_of-i.result c.args.left.now _ _ (inside_states _ _ c.place_of-i.ensures.left_inside) c.load.ensures.left c.play_at.ensures.left
      (same_path _ _ _ _ _
      (loaded_plays c.one_change.ensures _ _ _ c.args.left.now (inside_states _ _ c.place_of-i.ensures.left_inside) c.load.ensures.left
      ∙ c.entries_play.ensures.left _ _ _ _ c.requires.fits c.place_of-i.ensures)
      (loaded_plays c.one_change.ensures _ _ _ c.args.right.now (inside_states _ _ c.place_of-j.ensures.right_inside) c.load.ensures.right
      ∙ c.entries_play.ensures.right _ _ _ _ c.requires.fits c.place_of-j.ensures))
      c.place_of-i.ensures.left_takes;
  on_the_right = has_played c.one_change.ensures _ _ _ c.place_of-j.result c.args.right.now _ _ (inside_states _ _ c.place_of-j.ensures.right_inside) c.load.ensures.right c.play_at.ensures.right
      (ap turned (same_path _ _ _ _ _
      (loaded_plays c.one_change.ensures _ _ _ c.args.left.now (inside_states _ _ c.place_of-i.ensures.left_inside) c.load.ensures.left
      ∙ c.entries_play.ensures.left _ _ _ _ c.requires.fits c.place_of-i.ensures)
      (loaded_plays c.one_change.ensures _ _ _ c.args.right.now (inside_states _ _ c.place_of-j.ensures.right_inside) c.load.ensures.right
      ∙ c.entries_play.ensures.right _ _ _ _ c.requires.fits c.place_of-j.ensures)))
      c.place_of-j.ensures.right_takes;
}
