use Rattle.std.proofs.Common.{arith}
use Rattle.std.proofs.lemmas.List.{length-map}
use Rattle.player_core.proofs.Fitting.{none_takes}
use Rattle.player_core.proofs.bench.Bench.place.Goals as goal

pub returns : goal.returns
returns g c =
    none_takes _ _ _ _ c.requires.fits (simp length-map (omega arith)) c.loop-k.invariant.none
