use Rattle.product_chain.specs.Layer.{AreNone}
use Rattle.product_chain.proofs.slim.no_cells.Given as goal

abbrev pub invariant-loop-row : goal.invariant-loop-row
invariant-loop-row l = AreNone l._row l.width l.table.items
