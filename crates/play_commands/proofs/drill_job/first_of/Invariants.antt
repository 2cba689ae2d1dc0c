use Rattle.std.proofs.Common.{◌≡◌, ◌-◌, ◌++◌, length}
use Rattle.std.specs.List.{range_with_len}
use Rattle.play_commands.proofs.DrillLoops.{told}
use Rattle.play_commands.proofs.drill_job.first_of.Given as goal

abbrev pub invariant-loop-place : goal.invariant-loop-place
invariant-loop-place l = record {
  first : l.first.items ++ told l.entries (range_with_len l.place (l.place-end - l.place)) ≡ told l.entries (range_with_len 0 l.place-end);
  last : l.place-end ≡ length l.entries;
}
