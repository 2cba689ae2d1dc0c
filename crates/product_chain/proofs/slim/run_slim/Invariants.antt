use Rattle.std.proofs.Common.{length}
use Rattle.product_chain.specs.Layer.{IsLayer, IsTable, other_rows}
use Rattle.product_chain.specs.Slim.{slim_grain}
use Rattle.product_chain.proofs.slim.run_slim.Given as goal

abbrev pub invariant-loop-n : goal.invariant-loop-n
invariant-loop-n l = record {
  layer : IsLayer l.plan.side.now (slim_grain l.plan.side.now l.plan.scale) l.n l.layer.items;
  if_c : IsTable (length l.plan.after_c.forks.items) (other_rows l.plan.side.now) l.if_c.items;
  if_d : IsTable (length l.plan.after_d.forks.items) (other_rows l.plan.side.now) l.if_d.items;
}
