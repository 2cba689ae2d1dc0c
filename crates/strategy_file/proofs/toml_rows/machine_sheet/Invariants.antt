use Rattle.std.proofs.Common.{◌≡◌, [], drop}
use Rattle.toml.specs.View.{items_view}
use Rattle.machine_rows.specs.Rows.{with_rows}
use Rattle.strategy_file.specs.TomlRows.{rows_in}
use Rattle.strategy_file.proofs.toml_rows.machine_sheet.Given as goal

abbrev pub invariant-loop-value : goal.invariant-loop-value
invariant-loop-value l = record {
  rest : with_rows l.entry l.start [] (rows_in (items_view l.array.items))
      ≡ with_rows l.entry l.start l.rows.rows (rows_in (items_view (drop l.value-index l.array.items)));
  start : l.rows.start ≡ l.start;
}
