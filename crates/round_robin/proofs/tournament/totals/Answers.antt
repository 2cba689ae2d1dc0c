use Rattle.std.proofs.Common.{◌≤◌, length, arith, rules}
use Rattle.std.specs.List.{All}
use Rattle.result_lines.specs.Totals.{AreSummable}
use Rattle.result_lines.proofs.Summing.{all_summable}
use Rattle.round_robin.proofs.Counting.{lines_few}
use Rattle.round_robin.proofs.Telling.{none_at_most}
use Rattle.round_robin.proofs.tournament.totals.Goals as goal

pub entries_of-requires-clause-few : goal.entries_of-requires-clause-few
entries_of-requires-clause-few g c =
    let few : length c.in_ok-lines.lines.items ≤ 4096 = lines_few _ _ _ c.requires.contestants.few c.requires.pairs c.in_ok-lines.ensures.lines.places in
    omega (arith, few)

pub entries_of-requires-clause-scores : goal.entries_of-requires-clause-scores
entries_of-requires-clause-scores g c =
    let scores : All AreSummable c.in_ok-lines.lines.items = all_summable c.in_ok-lines.lines.items c.in_ok-lines.ensures.scores in
    search rules

pub returns-in_err-trail-clause-most : goal.returns-in_err-trail-clause-most
returns-in_err-trail-clause-most g c = none_at_most _ _
