-- Whether an entry is sure: nothing that it plays is left to chance.
use Rattle.std.specs.Prelude.{ℕ, ◌||◌, ◌&&◌, ◌==◌, Bool, true, false, List, [], ◌∷◌, bytes_eq, if◌then◌else◌}
use Rattle.player_core.specs.declared.kind.Kind.{Kind}
use Rattle.player_core.specs.declared.kind.Kind.TheVariants.{MemoryOne, Machine, Lookup, Plug}
use Rattle.player_core.specs.declared.bench.PlugNote.{PlugNote}
use Rattle.player_core.specs.Sheet.{SheetData}
use Rattle.player_core.specs.AutomatonOf.{vector_automaton, machine_automaton}
use Rattle.player_core.specs.Table.{table_automaton}
use Rattle.player_core.specs.Bench.{is_sure}
use Rattle.strategy_file.specs.declared.draft.Draft.{Draft}
use Rattle.strategy_file.specs.declared.draft.Draft.TheVariants.{Ready, FromFile}
use Rattle.lab_file.specs.declared.lab.Entry.{Entry}

-- a weight that leaves nothing to chance
abbrev pub is_sure_weight : ℕ → ℕ → Bool
is_sure_weight den weight = weight == 0 || weight == den

-- what the note of the plug of this name says
abbrev pub plug_is_sure : List PlugNote → List ℕ → Bool
plug_is_sure [] name = false
plug_is_sure (note ∷ notes) name = if bytes_eq note.name name then note.sure else plug_is_sure notes name

abbrev pub sure_by : Kind → List PlugNote → SheetData → Bool
sure_by MemoryOne notes sheet = is_sure (vector_automaton sheet)
sure_by Machine notes sheet = is_sure (machine_automaton sheet)
sure_by Lookup notes sheet = is_sure (table_automaton sheet)
sure_by Plug notes sheet = plug_is_sure notes sheet.plug

-- whether a sheet's automaton is sure
abbrev pub sheet_is_sure : List PlugNote → SheetData → Bool
sheet_is_sure notes sheet = sure_by sheet.kind notes sheet

-- machines are
abbrev pub draft_is_sure : List PlugNote → Draft → Bool
draft_is_sure notes (Ready sheet) = sheet_is_sure notes sheet
draft_is_sure notes (FromFile machine) = true

-- whether an entry's automaton is sure, and no move of it is flipped
abbrev pub entry_is_sure : List PlugNote → Entry → Bool
entry_is_sure notes entry = entry.noise.n == 0 && draft_is_sure notes entry.draft
