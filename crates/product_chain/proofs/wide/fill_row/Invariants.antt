use Rattle.product_chain.specs.Wide.{AreDivided}
use Rattle.product_chain.proofs.wide.fill_row.Given as goal

abbrev pub invariant-loop-v : goal.invariant-loop-v
invariant-loop-v l = AreDivided l.fn.weights l.by.q l.if_c l.if_d l.v l.cells
