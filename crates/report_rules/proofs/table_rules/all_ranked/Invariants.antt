use Rattle.std.proofs.Common.{◌≡◌, drop}
use Rattle.report_rules.specs.TableRules.{ranked_from}
use Rattle.report_rules.proofs.table_rules.all_ranked.Given as goal

abbrev pub invariant-loop-entry : goal.invariant-loop-entry
invariant-loop-entry l = record { ranked : ranked_from l.totals l.place (drop l.entry-index l.entries) ≡ ranked_from l.totals 0 l.entries; place_is : l.place ≡ l.entry-index }
