use Rattle.std.proofs.Common.{arith}
use Rattle.std.proofs.lemmas.Int.{ints}
use Rattle.round_robin.proofs.Ranging.{payable_range}
use Rattle.round_robin.proofs.lines.paid_in_range.Goals as goal

pub returns : goal.returns
returns c =
    payable_range c.args.game.now c.args.turns c.args.span.now c.unsigned.ensures.game (omega arith)
    (omega (arith, ints, c.ends.ensures.lo, c.ends.ensures.hi, c.ends.ensures.ordered)) c.requires.payable
