use Rattle.result_lines.proofs.Offsets.{AreLoweredUpTo}
use Rattle.result_lines.proofs.lowering.lower_each.Given as goal

abbrev pub invariant-loop-line : goal.invariant-loop-line
invariant-loop-line l = AreLoweredUpTo l.offset l.initial.lines l.line-index l.lines
