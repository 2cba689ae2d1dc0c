use Rattle.std.proofs.Common.{◌≡◌, map}
use Rattle.std.specs.List.{range_with_len}
use Rattle.result_lines.specs.Totals.{total_of}
use Rattle.result_lines.proofs.scoring.totals_of.Given as goal

abbrev pub invariant-loop-i : goal.invariant-loop-i
invariant-loop-i l = l.spans.items ≡ map (λ i. total_of i l.lines) (range_with_len 0 l.i)
