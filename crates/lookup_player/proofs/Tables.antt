-- The automaton of a table is valid.
use Rattle.std.proofs.Common.{◌≡◌, ℕ, suc, ◌+◌, ◌-◌, ◌^◌, ◌<◌, ◌≤◌, length, refl, ap, inl, inr, arith}
use Rattle.std.proofs.lemmas.Nat.{pow_pos}
use Rattle.std.proofs.lemmas.Bool.{cases_lt, lt-ltb, le-ltb}
use Rattle.std.proofs.lemmas.List.FromFn.{length-map-range_with_len, get_or-map-range_with_len}
use Rattle.history_model.specs.declared.moves.Move.{Move}
use Rattle.history_model.specs.declared.moves.Move.TheVariants.{C, D}
use Rattle.history_model.specs.Automaton.{IsAutomaton, row_at, weight_at, next_of, no_row}
use Rattle.player_core.specs.Sheet.{SheetData, IsTable, depth}
use Rattle.player_core.specs.Table.{Seen, width, base, row_of_seen, table_rows, turns_at, table_weight, table_next, table_row, table_automaton}
use Rattle.lookup_player.specs.Lookup.{IsSeen}
use Rattle.lookup_player.proofs.Places.{at_most, base_grows, next_inside, row_inside, turns_shallow}

pub all_rows : (sheet : SheetData) → length (table_automaton sheet).rows ≡ table_rows sheet
all_rows sheet = length-map-range_with_len (table_row sheet) 0 (table_rows sheet)

pub row_is : (sheet : SheetData) (row : ℕ) → row < table_rows sheet → row_at (table_automaton sheet) row ≡ table_row sheet row
row_is sheet row inside = get_or-map-range_with_len (table_row sheet) 0 (table_rows sheet) row row no_row inside (omega arith)

-- a table that looks back at four plays of one sort has room for four more of the others
pub few_rows : (sheet : SheetData) → IsTable sheet → table_rows sheet ≤ 457
few_rows sheet table =
    elim (cases_lt (depth sheet) 4) [
      | inl shallow ↦
          omega (arith, base_grows sheet (depth sheet + 1) 4 (omega arith), at_most (width sheet 0) 0 (omega arith), at_most (width sheet 1) 3 (omega arith), at_most (width sheet 2) 6 (omega arith), at_most (width sheet 3) 8 (omega (arith, table.all_few)))
      | inr deep ↦
          omega (arith, base_grows sheet (depth sheet + 1) 5 (omega (arith, table.own_few, table.other_few, table.first_few)), at_most (width sheet 0) 0 (omega arith), at_most (width sheet 1) 3 (omega arith), at_most (width sheet 2) 6 (omega arith), at_most (width sheet 3) 7 (omega (arith, table.all_few)), at_most (width sheet 4) 8 (omega (arith, table.all_few)))
    ]

pub rows_end : (sheet : SheetData) → table_rows sheet ≡ base sheet (depth sheet) + 2 ^ (sheet.own + sheet.other + sheet.first)
rows_end sheet =
    let more : depth sheet + 1 ≡ suc (depth sheet) = omega arith in
    let all : width sheet (depth sheet) ≡ sheet.own + sheet.other + sheet.first = omega arith in
    omega (arith, ap (base sheet) more, ap (λ e. 2 ^ e) all)

weighed : (sheet : SheetData) (row : ℕ) → IsTable sheet → row < table_rows sheet → table_weight sheet row ≤ sheet.den
weighed sheet row table inside =
    elim (cases_lt (turns_at sheet row) (depth sheet)) [
      | inl early ↦
          rw (lt-ltb (turns_at sheet row) (depth sheet) early)
          (table.weighted.opening_within (turns_at sheet row) (omega (arith, table.openings)))
      | inr late ↦
          let at : turns_at sheet row ≡ depth sheet = omega (arith, turns_shallow sheet row (depth sheet)) in
          let here : row - base sheet (turns_at sheet row) < length sheet.table =
          omega (arith, ap (base sheet) at, rows_end sheet, table.weights, pow_pos (sheet.own + sheet.other + sheet.first)) in
          rw (le-ltb (turns_at sheet row) (depth sheet) late)
          (table.weighted.table_within (row - base sheet (turns_at sheet row)) here)
    ]

pub next_of_row : (sheet : SheetData) (row : ℕ) (mine theirs : Move) → next_of (table_row sheet row) mine theirs ≡ table_next sheet row mine theirs
next_of_row sheet row C C = refl
next_of_row sheet row C D = refl
next_of_row sheet row D C = refl
next_of_row sheet row D D = refl

pub table_valid : (sheet : SheetData) → IsTable sheet → IsAutomaton (table_automaton sheet)
table_valid sheet table =
    let whole = all_rows sheet in
    record {
      some = table.weighted.some;
      few = table.weighted.few;
      few_rows = omega (arith, few_rows sheet table);
      started = omega (arith, rows_end sheet, pow_pos (sheet.own + sheet.other + sheet.first));
      weighed = λ row inside. rw (row_is sheet row (omega arith), weight_at) (weighed sheet row table (omega arith));
      closed = λ row mine theirs inside. rw (whole, row_is sheet row (omega arith), next_of_row sheet row mine theirs) (next_inside sheet row mine theirs);
    }

-- the rows of up to so many turns
pub turns_fit : (sheet : SheetData) (turns : ℕ) → IsTable sheet → turns ≤ depth sheet → base sheet (turns + 1) ≤ 457
turns_fit sheet turns table shallow =
    omega (arith, base_grows sheet (turns + 1) (depth sheet + 1) (omega arith), few_rows sheet table)

-- the row at a place among those of so many turns
pub row_here : (sheet : SheetData) (turns row : ℕ) → turns ≤ depth sheet → row < base sheet (turns + 1) → row < length (table_automaton sheet).rows
row_here sheet turns row shallow inside =
    omega (arith, all_rows sheet, base_grows sheet (turns + 1) (depth sheet + 1) (omega arith))

pub row_fits : (sheet : SheetData) (seen : Seen) → IsTable sheet → IsSeen sheet seen → row_of_seen sheet seen < 457
row_fits sheet seen table is = omega (arith, row_inside sheet seen is, few_rows sheet table)
