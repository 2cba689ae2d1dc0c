use Rattle.result_lines.proofs.Summing.{own_summable, sum_small, summed_more}
use Rattle.result_lines.proofs.scoring.total_of.Goals as goal

pub loop-line-preserved : goal.loop-line-preserved
loop-line-preserved c =
    summed_more _ _ _ _ _ _ _ c.loop-line-test.true c.requires.scores c.line-item.is c.own_score.ensures c.add-total.ensures.sum c.loop-line.invariant

pub add-total-requires-clause-sums : goal.add-total-requires-clause-sums
add-total-requires-clause-sums c =
    sum_small _ _ _ _ _ c.loop-line-test.true c.requires.few (own_summable _ _ _ _ _ c.loop-line-test.true c.requires.scores c.line-item.is c.own_score.ensures)
    c.loop-line.invariant
