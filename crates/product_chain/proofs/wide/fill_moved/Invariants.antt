use Rattle.product_chain.specs.Wide.{AreSumsTo, wide_grain}
use Rattle.product_chain.proofs.wide.fill_moved.Given as goal

abbrev pub invariant-loop-k : goal.invariant-loop-k
invariant-loop-k l = AreSumsTo l.plan.side.now (wide_grain l.plan.side.now l.plan.scale) l.n l.fn.mine l.course.forks.items l.k l.cells
