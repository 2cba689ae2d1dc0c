use Rattle.result_lines.proofs.Listing.{pushed_more}
use Rattle.result_lines.proofs.scoring.totals_of.Goals as goal

pub loop-i-preserved : goal.loop-i-preserved
loop-i-preserved c = pushed_more _ _ _ _ _ c.in_ok-push.ensures.items c.loop-i.invariant c.total_of.ensures
