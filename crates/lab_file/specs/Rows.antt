-- How many rows the automata of entries have.
use Rattle.std.specs.Prelude.{ℕ, List, [], ◌∷◌, length, bytes_eq, if◌then◌else◌}
use Rattle.player_core.specs.declared.kind.Kind.{Kind}
use Rattle.player_core.specs.declared.kind.Kind.TheVariants.{MemoryOne, Machine, Lookup, Plug}
use Rattle.player_core.specs.declared.bench.PlugNote.{PlugNote}
use Rattle.player_core.specs.Sheet.{SheetData}
use Rattle.player_core.specs.AutomatonOf.{vector_automaton, machine_automaton}
use Rattle.player_core.specs.Table.{table_automaton}
use Rattle.strategy_file.specs.declared.draft.Draft.{Draft}
use Rattle.strategy_file.specs.declared.draft.Draft.TheVariants.{Ready, FromFile}
use Rattle.lab_file.specs.declared.lab.Entry.{Entry}

-- what the note of the plug of this name says
abbrev pub plug_rows : List PlugNote → List ℕ → ℕ
plug_rows [] name = 0
plug_rows (note ∷ notes) name = if bytes_eq note.name name then note.rows else plug_rows notes name

abbrev pub rows_by : Kind → List PlugNote → SheetData → ℕ
rows_by MemoryOne notes sheet = length (vector_automaton sheet).rows
rows_by Machine notes sheet = length (machine_automaton sheet).rows
rows_by Lookup notes sheet = length (table_automaton sheet).rows
rows_by Plug notes sheet = plug_rows notes sheet.plug

-- the rows of a sheet's automaton
abbrev pub sheet_rows : List PlugNote → SheetData → ℕ
sheet_rows notes sheet = rows_by sheet.kind notes sheet

-- a machine whose file isn't read yet has none
abbrev pub draft_rows : List PlugNote → Draft → ℕ
draft_rows notes (Ready sheet) = sheet_rows notes sheet
draft_rows notes (FromFile machine) = 0

-- the rows of an entry's automaton
abbrev pub entry_rows : List PlugNote → Entry → ℕ
entry_rows notes entry = draft_rows notes entry.draft
