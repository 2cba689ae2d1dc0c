use Rattle.std.proofs.Common.{arith}
use Rattle.history_model.proofs.Bounds.{power_fits}
use Rattle.history_model.proofs.whole.over_rest.Goals as goal

pub pow-requires : goal.pow-requires
pow-requires c =
    let some = rw c.one_play.ensures.value at c.one_play.ensures.some in
    rw c.one_play.ensures.value (omega (arith, power_fits _ _ some c.requires))
