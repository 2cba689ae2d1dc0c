use Rattle.std.proofs.Common.{◌≡◌, length, map, take}
use Rattle.history_model.specs.Automaton.{plain_row}
use Rattle.player_core.specs.AutomatonOf.{machine_automaton}
use Rattle.player_core.specs.declared.sheet_player.TheConstants.{ROOM}
use Rattle.machine_player.proofs.player.write_rows.Given as goal

abbrev pub invariant-loop-row : goal.invariant-loop-row
invariant-loop-row l = record {
  room : length l.table.items ≡ ROOM;
  rows : map plain_row (take l.row l.table.items) ≡ take l.row (machine_automaton l.sheet).rows;
}
