use Rattle.std.proofs.Common.{arith}
use Rattle.result_lines.proofs.Offsets.{all_summable_now, lowered_more, raised_still}
use Rattle.result_lines.proofs.lowering.lower_each.Goals as goal

pub lowered-requires-clause-raised : goal.lowered-requires-clause-raised
lowered-requires-clause-raised c = raised_still _ _ _ _ c.loop-line.invariant _ (omega arith) c.requires.raised

pub loop-line-preserved : goal.loop-line-preserved
loop-line-preserved c = lowered_more _ _ _ _ c.loop-line.invariant _ _ (omega arith) c.lowered.ensures.line c.lowered.ensures.scores

pub returns-clause-scores : goal.returns-clause-scores
returns-clause-scores c = all_summable_now _ _ _ _ c.loop-line.invariant (omega arith)
