use Rattle.result_lines.proofs.Summing.{IsSummed}
use Rattle.result_lines.proofs.scoring.total_of.Given as goal

abbrev pub invariant-loop-line : goal.invariant-loop-line
invariant-loop-line l = IsSummed l.i l.lines l.line-index l.total
