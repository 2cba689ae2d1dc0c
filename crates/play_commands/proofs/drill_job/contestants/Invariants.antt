use Rattle.std.proofs.Common.{◌≡◌, ◌++◌, map, drop}
use Rattle.sheet_rules.specs.Entrants.{entrants_of}
use Rattle.play_commands.specs.Machines.{still}
use Rattle.play_commands.proofs.drill_job.contestants.Given as goal

abbrev pub invariant-loop-sheet : goal.invariant-loop-sheet
invariant-loop-sheet l = entrants_of l.contestants.items ++ map still (drop l.sheet-index l.sheets) ≡ map still l.sheets
