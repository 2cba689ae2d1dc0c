-- What the sheet of a machine says of each row that it was read from.
use Rattle.std.specs.Prelude.{◌≡◌, ℕ, ◌+◌, ◌*◌, List, map, slice_get, slice_index, Some, Ok}
use Rattle.history_model.specs.declared.moves.Move.{Move}
use Rattle.player_core.specs.Sheet.{SheetData, digit}
use Rattle.machine_rows.specs.declared.transition.Transition.{Transition}
use Rattle.machine_rows.specs.Rows.{states_of, number_of, machine_sheet}
use Rattle.machine_rows.specs.MachineSheet.{weight_of}

-- where the lists of a sheet have what follows on the state of a row after the heard move
abbrev pub place_of : List ℕ → Transition → ℕ
place_of states row = 2 * number_of states row.state + digit row.heard

-- the sheet plays as the row says and goes to its next state, where states are known by their places among the states
pub record FollowsRow (sheet : SheetData) (states : List ℕ) (row : Transition) : Type 0 where
  pub state : slice_get states (number_of states row.state) ≡ Some row.state
  pub play : slice_index sheet.table (place_of states row) ≡ weight_of row.play
  pub next : slice_get states (slice_index sheet.next (place_of states row)) ≡ Some row.next

-- the law: the sheet of a list of rows follows each of them
abbrev pub SheetFollowsRows : Type 0
SheetFollowsRows =
    (entry start : ℕ) (opening : Move) (rows : List Transition) (sheet : SheetData) → machine_sheet entry start opening (map Some rows) ≡ Ok sheet →
    (k : ℕ) (row : Transition) → slice_get rows k ≡ Some row → FollowsRow sheet (states_of start rows) row
