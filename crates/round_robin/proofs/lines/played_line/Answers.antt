use Rattle.std.proofs.Common.{◌*◌, pos, ◌∙◌, ap}
use Rattle.fixed_span.specs.Span.{point, score_units}
use Rattle.round_robin.proofs.Asking.{asked_by_playing, at_most_by_playing}
use Rattle.round_robin.proofs.lines.played_line.Goals as goal

pub returns-clause-line : goal.returns-clause-line
returns-clause-line g c = record {
  sure = c.requires.sure;
  plays = c.in_ok-tally.ensures.tally;
  left = c.points_span.ensures.value ∙ ap (λ x. point (pos (x * score_units))) c.left_points.ensures.value;
  right = c.points_span-2.ensures.value ∙ ap (λ x. point (pos (x * score_units))) c.right_points.ensures.value;
}

pub returns-clause-asked : goal.returns-clause-asked
returns-clause-asked g c =
    let followed = c.in_ok-tally.ensures.followed in
    asked_by_playing _ _ _ _ c.args.turns followed.steps _ _ c.requires.sure followed.within followed.fresh followed.left_advanced followed.right_advanced

pub returns-in_err-tally-clause-most : goal.returns-in_err-tally-clause-most
returns-in_err-tally-clause-most g c = at_most_by_playing _ _ _ _ c.play_sheets_long.ensures.most

pub returns-clause-most : goal.returns-clause-most
returns-clause-most g c = at_most_by_playing _ _ _ _ c.play_sheets_long.ensures.most
