use Rattle.std.proofs.lemmas.Result.{IfOk-weaker}
use Rattle.round_robin.proofs.Entering.{grid_of}
use Rattle.round_robin.proofs.entries.entry_grid.Goals as goal

pub returns-clause-grid : goal.returns-clause-grid
returns-clause-grid g c =
    IfOk-weaker c.tabulate_sheet.result _ _
    (λ grid is. grid_of c.entrants_follow_their_rules.ensures _ _ _ c.requires.entry c.tabulate_sheet.ensures.valid is)
    c.tabulate_sheet.ensures.grid
