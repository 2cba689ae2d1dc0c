use Rattle.match_play.proofs.Cycles.{cycles_fit, rest_fits, cycle_tally, cycle_left, cycle_right}
use Rattle.match_play.proofs.long.by_cycle.Goals as goal

pub grown-tally-requires : goal.grown-tally-requires
grown-tally-requires g c = cycles_fit _ _ _ _ _ c.requires.cycle _ _ c.requires.few

pub go_on-requires : goal.go_on-requires
go_on-requires g c = rest_fits _ _ _ _ _ c.requires.cycle _ _ _ c.grown-tally.ensures c.requires.few

pub returns-clause-tally : goal.returns-clause-tally
returns-clause-tally g c = cycle_tally _ _ _ _ _ c.requires.cycle _ _ _ c.grown-tally.ensures c.go_on.ensures.tally

pub returns-clause-left : goal.returns-clause-left
returns-clause-left g c = cycle_left _ _ _ _ _ c.requires.cycle _ c.go_on.ensures.left

pub returns-clause-right : goal.returns-clause-right
returns-clause-right g c = cycle_right _ _ _ _ _ c.requires.cycle _ c.go_on.ensures.right
