-- Entries whose plugs have notes, and what the notes of a bench tell of its players.
use Rattle.std.specs.Prelude.{ℕ, ◌≡◌, ◌↔◌, ◌||◌, IsTrue, Bool, true, false, List, [], ◌∷◌, length, Ok, All, bytes_eq}
use Rattle.history_model.specs.Automaton.{IsSure}
use Rattle.player_core.specs.declared.kind.Kind.TheVariants.{Plug}
use Rattle.player_core.specs.declared.bench.PlugNote.{PlugNote}
use Rattle.player_core.specs.State.{Lasting}
use Rattle.player_core.specs.Sheet.{SheetData}
use Rattle.player_core.specs.Fits.{NoPlugNamed}
use Rattle.player_core.specs.Entry.{entry_automaton}
use Rattle.player_core.specs.Bench.{notes_of}
use Rattle.strategy_file.specs.declared.draft.Draft.{Draft}
use Rattle.strategy_file.specs.declared.draft.Draft.TheVariants.{Ready, FromFile}
use Rattle.lab_file.specs.declared.lab.Entry.{Entry}
use Rattle.lab_file.specs.Attached.{draft_with}
use Rattle.lab_file.specs.Lab.{LabData}
use Rattle.lab_file.specs.LabOf.{lab_of}
use Rattle.lab_file.specs.Rows.{entry_rows}
use Rattle.lab_file.specs.Sure.{entry_is_sure}

-- whether some plug has this name
abbrev pub has_note : List PlugNote → List ℕ → Bool
has_note [] name = false
has_note (note ∷ notes) name = bytes_eq note.name name || has_note notes name

-- a sheet of a plug has its note
abbrev pub IsNoted : List PlugNote → SheetData → Type 0
IsNoted notes sheet = sheet.kind ≡ Plug → has_note notes sheet.plug ≡ true

abbrev pub IsNotedDraft : List PlugNote → Draft → Type 0
IsNotedDraft notes (Ready sheet) = IsNoted notes sheet
IsNotedDraft notes (FromFile machine) = Unit {0}

abbrev pub AreNoted : List PlugNote → List Entry → Type 0
AreNoted notes entries = All (λ (entry : Entry). IsNotedDraft notes entry.draft) entries

-- the laws of a bench's notes, of an entry whose sheet has its note: the bench has the sheet's players; the entry is sure exactly
-- where no move of it is flipped and its automaton is; and the automaton has as many rows
pub record NotesTell : Type 0 where
  pub known : (players : List Lasting) (sheet : SheetData) → IsNoted (notes_of players) sheet → NoPlugNamed players sheet → ⊥
  pub sure : (players : List Lasting) (entry : Entry) (sheet : SheetData) → entry.draft ≡ Ready sheet → IsNoted (notes_of players) sheet
      → IsTrue (entry_is_sure (notes_of players) entry) ↔ ((entry.noise.n ≡ 0) × IsSure (entry_automaton players sheet))
  pub rows : (players : List Lasting) (entry : Entry) (sheet : SheetData) → entry.draft ≡ Ready sheet → IsNoted (notes_of players) sheet
      → entry_rows (notes_of players) entry ≡ length (entry_automaton players sheet).rows

-- the laws of labs: each plug of a lab that is read over notes has its note, and a draft has it still with the bytes of its file
pub record LabsAreNoted : Type 0 where
  pub read : (notes : List PlugNote) (bytes : List ℕ) (lab : LabData) → lab_of notes bytes ≡ Ok lab → AreNoted notes lab.entries
  pub filed : (notes : List PlugNote) (number : ℕ) (draft made : Draft) (bytes : List ℕ) → draft_with number draft bytes ≡ Ok made
      → IsNotedDraft notes draft → IsNotedDraft notes made
