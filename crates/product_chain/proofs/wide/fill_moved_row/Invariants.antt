use Rattle.product_chain.specs.Wide.{AreSummed}
use Rattle.product_chain.proofs.wide.fill_moved_row.Given as goal

abbrev pub invariant-loop-v : goal.invariant-loop-v
invariant-loop-v l = AreSummed l.weights l.answers l.gain_c l.after_c l.gain_d l.after_d l.v l.cells
