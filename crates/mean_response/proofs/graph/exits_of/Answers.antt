use Rattle.mean_response.proofs.Leaving.{one_row_more}
use Rattle.mean_response.proofs.graph.exits_of.Goals as goal

pub loop-row-preserved : goal.loop-row-preserved
loop-row-preserved c = rw c.in_ok-push.ensures.items (one_row_more c.args.grid.now c.args.game.now c.loop-row.row c.loop-row.all.items _ c.loop-row.invariant c.exit_by.ensures.exit c.exit_by-in-loop-row.ensures.exit)
