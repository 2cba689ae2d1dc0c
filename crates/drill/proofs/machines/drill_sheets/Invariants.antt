use Rattle.std.proofs.Common.{◌≡◌, ◌*◌, map}
use Rattle.std.specs.List.{range_with_len}
use Rattle.drill.specs.Drill.{drill_sheet}
use Rattle.drill.proofs.Drawing.{before}
use Rattle.drill.proofs.machines.drill_sheets.Given as goal

abbrev pub invariant-loop-machine : goal.invariant-loop-machine
invariant-loop-machine l = record {
  drawn : l.draws.state ≡ before l.fn.number (65 * l._machine);
  sheets : l.sheets.items ≡ map (drill_sheet l.fn.number) (range_with_len 0 l._machine);
}
