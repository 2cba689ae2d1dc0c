use Rattle.round_robin.proofs.Contesting.{pair_asked_on, pair_at_most_on}
use Rattle.round_robin.proofs.pairing.pair_line.Goals as goal

pub returns-clause-asked : goal.returns-clause-asked
returns-clause-asked g c =
    pair_asked_on _ _ c.args.contestants.now c.args.pair c.args.turns c.entrant-left.result.sheet.now c.entrant-right.result.sheet.now
    c.entrant-left.result.noise c.entrant-right.result.noise c.args.sure _ _ c.requires.fits
    c.entrant-left.ensures.strategy c.entrant-right.ensures.strategy c.requires.sure c.in_ok-line.ensures.asked

pub returns-in_err-line-clause-most : goal.returns-in_err-line-clause-most
returns-in_err-line-clause-most g c =
    pair_at_most_on _ _ c.args.contestants.now c.args.pair c.entrant-left.result.sheet.now c.entrant-right.result.sheet.now
    c.entrant-left.result.noise c.entrant-right.result.noise _ _ c.requires.fits c.entrant-left.ensures.strategy c.entrant-right.ensures.strategy c.match_line.ensures.most

pub returns-clause-most : goal.returns-clause-most
returns-clause-most g c =
    pair_at_most_on _ _ c.args.contestants.now c.args.pair c.entrant-left.result.sheet.now c.entrant-right.result.sheet.now
    c.entrant-left.result.noise c.entrant-right.result.noise _ _ c.requires.fits c.entrant-left.ensures.strategy c.entrant-right.ensures.strategy c.match_line.ensures.most
