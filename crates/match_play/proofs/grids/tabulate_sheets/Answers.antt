use Rattle.std.proofs.Common.{◌∙◌}
use Rattle.match_play.proofs.Moving.{inside_states, loaded_plays}
use Rattle.match_play.proofs.Reading.{none_at_most, read_at_most, side_read}
use Rattle.match_play.proofs.grids.tabulate_sheets.Goals as goal

pub returns-clause-left_advanced : goal.returns-clause-left_advanced
returns-clause-left_advanced g c =
    side_read c.one_change.ensures c.counts_add_up.ensures _ _ _ _ c.args.left.now _ (inside_states _ _ c.place_of-i.ensures.left_inside) c.load.ensures.left c.tabulate_at.ensures.valid
    (loaded_plays c.one_change.ensures _ _ _ c.args.left.now (inside_states _ _ c.place_of-i.ensures.left_inside) c.load.ensures.left
    ∙ c.entries_play.ensures.left _ _ _ _ c.requires.fits c.place_of-i.ensures)
    c.in_ok-left_grid.ensures.advanced

pub returns-clause-right_advanced : goal.returns-clause-right_advanced
returns-clause-right_advanced g c =
    side_read c.one_change.ensures c.counts_add_up.ensures _ _ _ _ c.args.right.now _ (inside_states _ _ c.place_of-j.ensures.right_inside) c.load.ensures.right c.tabulate_at-2.ensures.valid
    (loaded_plays c.one_change.ensures _ _ _ c.args.right.now (inside_states _ _ c.place_of-j.ensures.right_inside) c.load.ensures.right
    ∙ c.entries_play.ensures.right _ _ _ _ c.requires.fits c.place_of-j.ensures)
    c.in_ok-right_grid.ensures.advanced

pub returns-in_err-left_grid-clause-most : goal.returns-in_err-left_grid-clause-most
returns-in_err-left_grid-clause-most g c = record {
  left = read_at_most _ _ _ c.place_of-i.result _ c.load.ensures.turns.left
      (loaded_plays c.one_change.ensures _ _ _ c.args.left.now (inside_states _ _ c.place_of-i.ensures.left_inside) c.load.ensures.left
      ∙ c.entries_play.ensures.left _ _ _ _ c.requires.fits c.place_of-i.ensures)
      c.tabulate_at.ensures.most;
  right = none_at_most _ _ _ c.load.ensures.turns.right;
}

pub returns-in_err-right_grid-clause-most : goal.returns-in_err-right_grid-clause-most
returns-in_err-right_grid-clause-most g c = record {
  left = read_at_most _ _ _ c.place_of-i.result _ c.load.ensures.turns.left
      (loaded_plays c.one_change.ensures _ _ _ c.args.left.now (inside_states _ _ c.place_of-i.ensures.left_inside) c.load.ensures.left
      ∙ c.entries_play.ensures.left _ _ _ _ c.requires.fits c.place_of-i.ensures)
      c.tabulate_at.ensures.most;
  right = read_at_most _ _ _ c.place_of-j.result _ c.load.ensures.turns.right
      (loaded_plays c.one_change.ensures _ _ _ c.args.right.now (inside_states _ _ c.place_of-j.ensures.right_inside) c.load.ensures.right
      ∙ c.entries_play.ensures.right _ _ _ _ c.requires.fits c.place_of-j.ensures)
      c.tabulate_at-2.ensures.most;
}

pub returns-clause-most : goal.returns-clause-most
returns-clause-most g c = record {
  left = read_at_most _ _ _ c.place_of-i.result _ c.load.ensures.turns.left
      (loaded_plays c.one_change.ensures _ _ _ c.args.left.now (inside_states _ _ c.place_of-i.ensures.left_inside) c.load.ensures.left
      ∙ c.entries_play.ensures.left _ _ _ _ c.requires.fits c.place_of-i.ensures)
      c.tabulate_at.ensures.most;
  right = read_at_most _ _ _ c.place_of-j.result _ c.load.ensures.turns.right
      (loaded_plays c.one_change.ensures _ _ _ c.args.right.now (inside_states _ _ c.place_of-j.ensures.right_inside) c.load.ensures.right
      ∙ c.entries_play.ensures.right _ _ _ _ c.requires.fits c.place_of-j.ensures)
      c.tabulate_at-2.ensures.most;
}
