use Rattle.std.proofs.Common.{◌≡◌, ◌++◌, drop, map}
use Rattle.std.specs.List.{All}
use Rattle.history_model.specs.Noise.{IsFlipRate}
use Rattle.report_making.specs.Made.{noise_of}
use Rattle.report_making.proofs.tournament.moved_noises.Given as goal

abbrev pub invariant-loop-name : goal.invariant-loop-name
invariant-loop-name l = record { noises : l.moved.items ++ map (noise_of l.names l.noises) (drop l.name-index l.order) ≡ map (noise_of l.names l.noises) l.order; are_noises : All IsFlipRate l.moved.items }
