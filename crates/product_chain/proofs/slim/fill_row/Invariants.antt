use Rattle.product_chain.specs.Slim.{AreMixed}
use Rattle.product_chain.proofs.slim.fill_row.Given as goal

abbrev pub invariant-loop-v : goal.invariant-loop-v
invariant-loop-v l = AreMixed l.part l.if_c l.if_d l.v l.cells
