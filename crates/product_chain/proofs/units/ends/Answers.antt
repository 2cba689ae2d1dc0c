use Rattle.product_chain.proofs.Ending.{ends_from}
use Rattle.product_chain.proofs.units.ends.Goals as goal

pub returns : goal.returns
returns c =
    ends_from c.args.x c.args.err c.args.scale c.args.floor c.args.roof c.units.result c.units_up.result c.drawn.result c.requires.some
    c.units.ensures.low c.units.ensures.high c.units_up.ensures.low c.units_up.ensures.high c.drawn.ensures.lo c.drawn.ensures.hi c.drawn.ensures.ordered
