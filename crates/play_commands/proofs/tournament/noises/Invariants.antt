use Rattle.std.proofs.Common.{◌≡◌, ◌++◌, drop}
use Rattle.play_commands.specs.Contestants.{noises_of}
use Rattle.play_commands.proofs.tournament.noises.Given as goal

abbrev pub invariant-loop-entry : goal.invariant-loop-entry
invariant-loop-entry l = l.noises.items ++ noises_of (drop l.entry-index l.entry-items) ≡ noises_of l.entry-items
