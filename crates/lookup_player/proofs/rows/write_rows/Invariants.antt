use Rattle.std.proofs.Common.{◌≡◌, length, map, take}
use Rattle.history_model.specs.Automaton.{plain_row}
use Rattle.player_core.specs.Table.{base, table_automaton}
use Rattle.player_core.specs.declared.sheet_player.TheConstants.{ROOM}
use Rattle.lookup_player.proofs.rows.write_rows.Given as goal

abbrev pub invariant-loop-turns : goal.invariant-loop-turns
invariant-loop-turns l = record {
  room : length l.table.items ≡ ROOM;
  counted : l.rows ≡ base l.sheet l.turns;
  rows : map plain_row (take l.rows l.table.items) ≡ take l.rows (table_automaton l.sheet).rows;
}
