use Rattle.std.proofs.Common.{◌≡◌, ◌++◌, drop}
use Rattle.report_rules.specs.TableRules.{totals_in}
use Rattle.report_rules.proofs.table_rules.totals_in.Given as goal

abbrev pub invariant-loop-entry : goal.invariant-loop-entry
invariant-loop-entry l = l.totals.items ++ totals_in (drop l.entry-index l.entries) ≡ totals_in l.entries
