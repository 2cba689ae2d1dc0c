use Rattle.std.proofs.Common.{◌≡◌, ◌-◌, ◌++◌, map}
use Rattle.std.specs.List.{range_with_len}
use Rattle.drill.specs.Drill.{drill_name}
use Rattle.play_commands.proofs.drill_job.names.Given as goal

abbrev pub invariant-loop-place : goal.invariant-loop-place
invariant-loop-place l = l.names.items ++ map drill_name (range_with_len l.place (64 - l.place)) ≡ map drill_name (range_with_len 0 64)
