-- How many rows there are.
use Rattle.std.proofs.Common.{◌≡◌, ℕ, suc, ◌+◌, ◌*◌, ◌^◌, length, arith}
use Rattle.std.proofs.lemmas.List.FromFn.{length-map-range_with_len}
use Rattle.player_core.specs.Sheet.{SheetData, states}
use Rattle.player_core.specs.AutomatonOf.{machine_automaton, machine_row}
use Rattle.player_core.specs.Table.{base, width, table_rows, table_row, table_automaton}

pub rows_of_machine : (sheet : SheetData) → length (machine_automaton sheet).rows ≡ 2 * states sheet
rows_of_machine sheet = length-map-range_with_len (machine_row sheet) 0 (2 * states sheet)

pub rows_of_table : (sheet : SheetData) → length (table_automaton sheet).rows ≡ table_rows sheet
rows_of_table sheet = length-map-range_with_len (table_row sheet) 0 (table_rows sheet)

-- counted turn by turn

pub base_next : (sheet : SheetData) (turns rows more next : ℕ) → next ≡ turns + 1 → rows ≡ base sheet turns → more ≡ 2 ^ width sheet turns
    → rows + more ≡ base sheet next
base_next sheet turns rows more next is counted grown =
    let later : next ≡ suc turns = omega (arith, is) in
    rw later (omega (arith, counted, grown))
