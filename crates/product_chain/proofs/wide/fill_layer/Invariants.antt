use Rattle.std.proofs.Common.{◌+◌}
use Rattle.product_chain.specs.Layer.{IsLayerTo}
use Rattle.product_chain.specs.Wide.{wide_grain}
use Rattle.product_chain.proofs.wide.fill_layer.Given as goal

abbrev pub invariant-loop-u : goal.invariant-loop-u
invariant-loop-u l = IsLayerTo l.plan.side.now (wide_grain l.plan.side.now l.plan.scale) (l.n + 1) l.u l.layer
