use Rattle.std.proofs.Common.{◌≡◌, ◌+◌, length, map, take}
use Rattle.history_model.specs.Automaton.{plain_row}
use Rattle.player_core.specs.Table.{table_automaton}
use Rattle.player_core.specs.declared.sheet_player.TheConstants.{ROOM}
use Rattle.lookup_player.proofs.rows.write_turns.Given as goal

abbrev pub invariant-loop-place : goal.invariant-loop-place
invariant-loop-place l = record {
  room : length l.table.items ≡ ROOM;
  rows : map plain_row (take (l.fewer + l.place) l.table.items) ≡ take (l.fewer + l.place) (table_automaton l.sheet).rows;
}
