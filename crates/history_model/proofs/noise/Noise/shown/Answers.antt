use Rattle.std.proofs.Common.{arith}
use Rattle.history_model.specs.declared.moves.Move.TheVariants.{D}
use Rattle.history_model.proofs.Sums.{shown-within}
use Rattle.history_model.proofs.noise.Noise.shown.Goals as goal

pub returns-in-D-clause-within : goal.returns-in-D-clause-within
returns-in-D-clause-within c =
    rw (← c.self.view_is) (shown-within _ c.args.den c.args.weight D (omega (arith, c.self.invariant.half)) c.requires.weighed)
