use Rattle.product_chain.proofs.Forking.{AreForksTo}
use Rattle.product_chain.proofs.course.all_forks.Given as goal

abbrev pub invariant-loop-row : goal.invariant-loop-row
invariant-loop-row l = AreForksTo l.grid l.mine l.row l.forks.items l.places.items
