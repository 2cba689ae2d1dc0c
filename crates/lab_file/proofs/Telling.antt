-- What the notes of a bench tell.
use Rattle.std.proofs.Common.{◌≡◌, ◌≢◌, ◌↔◌, ◌&&◌, ◌==◌, IsTrue, Bool, ℕ, suc, ◌+◌, ◌<◌, true, false, List, [], ◌∷◌, map, drop, length, refl, sym, ◌∙◌, ap, inl, inr, arith}
use Rattle.std.proofs.lemmas.Bool.{cases_Bool}
use Rattle.std.proofs.lemmas.Bool.Decides.{nat_tests}
use Rattle.std.proofs.lemmas.List.{get_or-drop, length-drop}
use Rattle.std.specs.Str.{bytes_eq}
use Rattle.std.proofs.lemmas.Slice.Eq.{bytes_eq-Decides}
use Rattle.history_model.specs.Automaton.{IsSure}
use Rattle.player_core.specs.declared.kind.Kind.{Kind}
use Rattle.player_core.specs.declared.kind.Kind.TheVariants.{MemoryOne, Machine, Lookup, Plug}
use Rattle.player_core.specs.State.{Lasting, nobody, lasting_at}
use Rattle.player_core.specs.Sheet.{SheetData}
use Rattle.player_core.specs.AutomatonOf.{automaton_by}
use Rattle.player_core.specs.Fits.{NoPlugNamed, first_plug}
use Rattle.player_core.specs.Entry.{automaton_named, plug_automaton, entry_automaton}
use Rattle.player_core.specs.Bench.{is_sure, note_of, notes_of}
use Rattle.player_core.specs.Laws.{SureIsTested}
use Rattle.strategy_file.specs.declared.draft.Draft.TheVariants.{Ready}
use Rattle.lab_file.specs.declared.lab.Entry.{Entry}
use Rattle.lab_file.specs.Notes.{has_note, IsNoted, NotesTell}
use Rattle.lab_file.specs.Rows.{plug_rows, rows_by, draft_rows, entry_rows}
use Rattle.lab_file.specs.Sure.{plug_is_sure, sure_by, draft_is_sure, entry_is_sure}

-- a plug that has a note is as the note says
named_sure : (players : List Lasting) (name : List ℕ) → has_note (map note_of players) name ≡ true
    → plug_is_sure (map note_of players) name ≡ is_sure (automaton_named players name)
named_sure [] name h = absurd (cc)
named_sure (player ∷ players) name h =
    elim (cases_Bool (bytes_eq player.name name)) [
      | inl same ↦ rw same refl
      | inr other ↦ rw other (named_sure players name (rw other at h))
    ]

named_rows : (players : List Lasting) (name : List ℕ) → has_note (map note_of players) name ≡ true
    → plug_rows (map note_of players) name ≡ length (automaton_named players name).rows
named_rows [] name h = absurd (cc)
named_rows (player ∷ players) name h =
    elim (cases_Bool (bytes_eq player.name name)) [
      | inl same ↦ rw same refl
      | inr other ↦ rw other (named_rows players name (rw other at h))
    ]

sure_kind : (kind : Kind) (players : List Lasting) (sheet : SheetData) → (kind ≡ Plug → has_note (notes_of players) sheet.plug ≡ true)
    → sure_by kind (notes_of players) sheet ≡ is_sure (automaton_by kind sheet (plug_automaton players sheet.plug))
sure_kind MemoryOne players sheet h = refl
sure_kind Machine players sheet h = refl
sure_kind Lookup players sheet h = refl
sure_kind Plug players sheet h = named_sure (drop first_plug players) sheet.plug (h refl)

rows_kind : (kind : Kind) (players : List Lasting) (sheet : SheetData) → (kind ≡ Plug → has_note (notes_of players) sheet.plug ≡ true)
    → rows_by kind (notes_of players) sheet ≡ length (automaton_by kind sheet (plug_automaton players sheet.plug)).rows
rows_kind MemoryOne players sheet h = refl
rows_kind Machine players sheet h = refl
rows_kind Lookup players sheet h = refl
rows_kind Plug players sheet h = named_rows (drop first_plug players) sheet.plug (h refl)

both_true : (still drafted : Bool) → IsTrue (still && drafted) ↔ ((still ≡ true) × (drafted ≡ true))
both_true true drafted = (λ h. (refl, h), λ h. h.1)
both_true false drafted = (λ h. absurd (cc), λ h. absurd (cc))

sure : SureIsTested → (players : List Lasting) (entry : Entry) (sheet : SheetData) → entry.draft ≡ Ready sheet → IsNoted (notes_of players) sheet
    → IsTrue (entry_is_sure (notes_of players) entry) ↔ ((entry.noise.n ≡ 0) × IsSure (entry_automaton players sheet))
sure test players entry sheet ready noted =
    let drafted : draft_is_sure (notes_of players) entry.draft ≡ is_sure (entry_automaton players sheet) =
    ap (draft_is_sure (notes_of players)) ready ∙ sure_kind sheet.kind players sheet noted in
    let parts = both_true (entry.noise.n == 0) (draft_is_sure (notes_of players) entry.draft) in
    let tested = test (entry_automaton players sheet) in (
      λ h. (grind (arith, nat_tests, (parts.0 h).0), tested.0 (sym drafted ∙ (parts.0 h).1)),
      λ h. parts.1 (grind (arith, nat_tests, h.0), drafted ∙ tested.1 h.1),
    )

rows : (players : List Lasting) (entry : Entry) (sheet : SheetData) → entry.draft ≡ Ready sheet → IsNoted (notes_of players) sheet
    → entry_rows (notes_of players) entry ≡ length (entry_automaton players sheet).rows
rows players entry sheet ready noted = ap (draft_rows (notes_of players)) ready ∙ rows_kind sheet.kind players sheet noted

-- a plug of no player has no note
no_note : (players : List Lasting) (name : List ℕ) → ((k : ℕ) → k < length players → (lasting_at players k).name ≢ name)
    → has_note (map note_of players) name ≡ true → ⊥
no_note [] name none h = cc
no_note (player ∷ players) name none h =
    elim (cases_Bool (bytes_eq player.name name)) [
      | inl same ↦ none 0 (omega arith) ((bytes_eq-Decides player.name name).0 same)
      | inr other ↦ no_note players name (λ k inside. none (suc k) (omega arith)) (rw other at h)
    ]

known : (players : List Lasting) (sheet : SheetData) → IsNoted (notes_of players) sheet → NoPlugNamed players sheet → ⊥
known players sheet h missing =
    no_note (drop first_plug players) sheet.plug
    (λ k inside same.
    let there : lasting_at (drop first_plug players) k ≡ lasting_at players (first_plug + k) = get_or-drop first_plug players k nobody in
    let within : first_plug + k < length players = omega (arith, inside, length-drop first_plug players) in
    missing.none (first_plug + k) (omega arith) within (sym (ap (λ (l : Lasting). l.name) there) ∙ same))
    (h missing.plug)

pub notes_tell : SureIsTested → NotesTell
notes_tell test = record { known = known; sure = sure test; rows = rows }
