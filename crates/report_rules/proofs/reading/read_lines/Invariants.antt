use Rattle.std.proofs.Common.{◌≡◌, ◌+◌, ◌≤◌, length}
use Rattle.report_rules.specs.declared.state.State.TheVariants.{Start}
use Rattle.report_rules.specs.Grammar.{StateHasRoom}
use Rattle.report_rules.proofs.Loops.{read_from}
use Rattle.report_rules.proofs.reading.read_lines.Given as goal

abbrev pub invariant-loop-text : goal.invariant-loop-text
invariant-loop-text l = record { reads : read_from l.state l.number l.rest ≡ read_from Start 1 l.bytes; names : StateHasRoom l.state; room : l.number + length l.rest ≤ length l.bytes + 1 }

abbrev pub decreases-loop-text : goal.decreases-loop-text
decreases-loop-text l = length l.rest
