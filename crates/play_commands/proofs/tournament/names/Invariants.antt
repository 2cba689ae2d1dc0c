use Rattle.std.proofs.Common.{◌≡◌, ◌++◌, drop}
use Rattle.lab_file.specs.Lab.{names_of}
use Rattle.play_commands.proofs.tournament.names.Given as goal

abbrev pub invariant-loop-entry : goal.invariant-loop-entry
invariant-loop-entry l = l.names.items ++ names_of (drop l.entry-index l.entry-items) ≡ names_of l.entry-items
