use Rattle.std.proofs.Common.{◌≡◌, [], length, map}
use Rattle.machine_rows.specs.Rows.{with_rows}
use Rattle.strategy_file.specs.CsvRead.{IsReading, bytes_left, records_left}
use Rattle.strategy_file.specs.CsvRows.{row_of_record}
use Rattle.strategy_file.proofs.csv_rows.sheet_of_rows.Given as goal

abbrev pub invariant-loop-rows : goal.invariant-loop-rows
invariant-loop-rows l = record {
  reading : IsReading l.reader;
  rest : with_rows l.entry l.machine.start [] (map row_of_record (records_left l.initial.reader))
      ≡ with_rows l.entry l.machine.start l.rows.rows (map row_of_record (records_left l.reader));
  start : l.rows.start ≡ l.machine.start;
}

abbrev pub decreases-loop-rows : goal.decreases-loop-rows
decreases-loop-rows l = length (bytes_left l.reader)
