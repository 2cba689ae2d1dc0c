use Rattle.product_chain.specs.Slim.{AreMovedTo, slim_grain}
use Rattle.product_chain.proofs.slim.fill_moved.Given as goal

abbrev pub invariant-loop-k : goal.invariant-loop-k
invariant-loop-k l = AreMovedTo l.plan.side.now (slim_grain l.plan.side.now l.plan.scale) l.n l.fn.mine l.course.forks.items l.k l.cells
