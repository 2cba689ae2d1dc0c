-- The automaton of a sheet, and what loading it does.
use Rattle.std.specs.Prelude.{ℕ, ◌+◌, ◌-◌, ◌*◌, ◌/◌, ◌%◌, ◌∷◌, List, map, slice_index, slice_set}
use Rattle.std.specs.List.{range_with_len}
use Rattle.history_model.specs.Automaton.{Automaton, Row}
use Rattle.player_core.specs.declared.kind.Kind.{Kind}
use Rattle.player_core.specs.declared.kind.Kind.TheVariants.{MemoryOne, Machine, Lookup, Plug}
use Rattle.player_core.specs.State.{PlayerState, state_at}
use Rattle.player_core.specs.Sheet.{SheetData, states}
use Rattle.player_core.specs.Table.{table_automaton}

-- a row of a vector: from each row the play leads to the row of that play
abbrev pub vector_row : ℕ → Row
vector_row weight = record { weight = weight; cc = 1; cd = 2; dc = 3; dd = 4 }

-- five rows: the start with the opening, and a row for each last play
abbrev pub vector_automaton : SheetData → Automaton
vector_automaton sheet =
    record { den = sheet.den; start = 0; rows = vector_row (slice_index sheet.opening 0) ∷ map vector_row sheet.table }

-- a state has two rows: the even one where it is about to play C, and the odd one behind it for D
abbrev pub machine_place : ℕ → ℕ → ℕ
machine_place state weight = 2 * state + (1 - weight)

-- where the entry at a place leads: its next state, about to make its play
abbrev pub entered : SheetData → ℕ → ℕ
entered sheet place = machine_place (slice_index sheet.next place) (slice_index sheet.table place)

-- a row of a machine: it goes by the heard move alone
abbrev pub machine_row : SheetData → ℕ → Row
machine_row sheet row =
    let state = row / 2 in
    record {
      weight = 1 - row % 2;
      cc = entered sheet (2 * state);
      cd = entered sheet (2 * state + 1);
      dc = entered sheet (2 * state);
      dd = entered sheet (2 * state + 1);
    }

-- two rows for each state; the start is state 0 about to make the opening
abbrev pub machine_automaton : SheetData → Automaton
machine_automaton sheet =
    record {
      den = 1;
      start = machine_place 0 (slice_index sheet.opening 0);
      rows = map (machine_row sheet) (range_with_len 0 (2 * states sheet));
    }

-- a plug keeps its own automaton
abbrev pub automaton_by : Kind → SheetData → Automaton → Automaton
automaton_by MemoryOne sheet own = vector_automaton sheet
automaton_by Machine sheet own = machine_automaton sheet
automaton_by Lookup sheet own = table_automaton sheet
automaton_by Plug sheet own = own

-- the automaton of an object that has taken a sheet, from the automaton of its own
abbrev pub automaton_of : SheetData → Automaton → Automaton
automaton_of sheet own = automaton_by sheet.kind sheet own

-- a load: the automaton becomes the sheet's, and the mark its start; the counts stay
abbrev pub loaded : PlayerState → SheetData → PlayerState
loaded state sheet =
    let automaton = automaton_of sheet state.lasting.automaton in
    record state { lasting = record state.lasting { automaton = automaton }; mark = automaton.start }

-- a side whose player at a place has taken a sheet
abbrev pub loaded_at : List PlayerState → ℕ → SheetData → List PlayerState
loaded_at states place sheet = slice_set states place (loaded (state_at states place) sheet)
