use Rattle.std.proofs.Common.{◌≡◌, map}
use Rattle.std.specs.List.{range_with_len}
use Rattle.result_lines.specs.Totals.{entry_of}
use Rattle.result_lines.proofs.scoring.entries_of.Given as goal

abbrev pub invariant-loop-i : goal.invariant-loop-i
invariant-loop-i l = l.entries.items ≡ map (entry_of l.count l.lines) (range_with_len 0 l.i)
