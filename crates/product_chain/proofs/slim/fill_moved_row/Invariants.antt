use Rattle.product_chain.specs.Slim.{AreDrawn}
use Rattle.product_chain.proofs.slim.fill_moved_row.Given as goal

abbrev pub invariant-loop-v : goal.invariant-loop-v
invariant-loop-v l = AreDrawn l.parts l.answers l.gain_c l.after_c l.gain_d l.after_d l.v l.cells
