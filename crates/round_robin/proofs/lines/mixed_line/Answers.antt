use Rattle.round_robin.proofs.Asking.{asked_by_reading, at_most_by_reading, mixed_by_reading}
use Rattle.round_robin.proofs.lines.mixed_line.Goals as goal

pub returns-clause-asked : goal.returns-clause-asked
returns-clause-asked g c =
    asked_by_reading _ _ _ _ c.args.turns _ _ c.requires.unsure c.in_ok-left_grid.ensures.left_advanced c.in_ok-left_grid.ensures.right_advanced

pub returns-clause-line : goal.returns-clause-line
returns-clause-line g c =
    let both = c.in_ok-left_score.ensures in
    mixed_by_reading _ _ _ _ _ _ _ _ _ c.in_ok-left_grid.ensures.left_grid c.in_ok-left_grid.ensures.right_grid c.requires.unsure
    (record { holds = both.left_holds; width = both.left_width; narrow = both.left_narrow; payable = both.left_payable; one_turn = both.left_one_turn })
    (record { holds = both.right_holds; width = both.right_width; narrow = both.right_narrow; payable = both.right_payable; one_turn = both.right_one_turn })

pub returns-in_err-left_grid-clause-most : goal.returns-in_err-left_grid-clause-most
returns-in_err-left_grid-clause-most g c = at_most_by_reading _ _ _ _ c.tabulate_sheets.ensures.most

pub returns-in_err-left_score-clause-most : goal.returns-in_err-left_score-clause-most
returns-in_err-left_score-clause-most g c = at_most_by_reading _ _ _ _ c.tabulate_sheets.ensures.most

pub returns-clause-most : goal.returns-clause-most
returns-clause-most g c = at_most_by_reading _ _ _ _ c.tabulate_sheets.ensures.most
