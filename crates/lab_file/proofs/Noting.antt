-- Each plug of a lab that is read over notes has its note.
use Rattle.std.proofs.Common.{codes, ◌&&◌, ◌^◌, max, map, nat_le, nat_lt, ◌≡◌, ℕ, ◌+◌, Bool, true, false, List, [], ◌∷◌, ◌++◌, length, bytes_eq, Option, Some, None, Result, Ok, Err, if◌then◌else◌, refl, subst, inl, inr}
use Rattle.std.proofs.lemmas.Bool.{cases_Bool}
use Rattle.std.proofs.Math.Bool.{or-true}
use Rattle.std.specs.List.{list_all}
use Rattle.std.proofs.lemmas.List.Elements.{All-nil, All-push}
use Rattle.std.proofs.lemmas.Slice.Eq.{bytes_eq-Decides}
use Rattle.toml.specs.Data.{Data, Members, Items, no_items, item}
use Rattle.history_model.specs.declared.moves.Move.{Move}
use Rattle.history_model.specs.Noise.{FlipRate}
use Rattle.player_core.specs.declared.bench.PlugNote.{PlugNote}
use Rattle.player_core.specs.Sheet.{SheetData}
use Rattle.refusals.specs.declared.refusal.Refusal.{Refusal}
use Rattle.refusals.specs.declared.refusal.Refusal.TheVariants.{BadName, OutOfRange, Syntax, UnknownPlug}
use Rattle.refusals.specs.declared.place.KeyName.TheVariants as key
use Rattle.refusals.specs.Refusing.{◌>>=◌, or_refuse}
use Rattle.lab_keys.specs.Keys as keys
use Rattle.lab_keys.specs.Keys.{found_at, text_at, text_of, array_at, array_of, whole_at, wholes_at, item_count}
use Rattle.machine_rows.specs.declared.transition.Transition.{Transition}
use Rattle.machine_rows.specs.Rows.{all_exits, has_both, machine_sheet, with_rows}
use Rattle.strategy_file.specs.declared.draft.Draft.{Draft}
use Rattle.strategy_file.specs.declared.draft.Draft.TheVariants.{Ready, FromFile}
use Rattle.strategy_file.specs.declared.draft.MachineFile.{MachineFile}
use Rattle.strategy_file.specs.CsvRows.{csv_sheet, is_head, row_of_record, sheet_of_records}
use Rattle.strategy_file.specs.FileName.{file_name_of}
use Rattle.strategy_file.specs.TomlRows.{last_state, move_of, rows_in}
use Rattle.game_file.specs.GameOf.{game_of}
use Rattle.strategy_file.specs.SheetOf.{at, vector_of, machine_in_lab, machine_in_file, machine_from, machine_of, table_weights, table_of, plug_named, plug_of, ready, draft_of_kind, draft_of}
use Rattle.lab_file.specs.declared.lab.Entry.{Entry}
use Rattle.lab_file.specs.Attached.{draft_with}
use Rattle.lab_file.specs.Lab.{LabData, names_of}
use Rattle.job_tables.specs.JobsOf.{top, jobs_of}
use Rattle.lab_file.specs.LabOf.{version_at, new_name, entry_noise, entry_of, are_tables, entries_from, entries_of, entries_at, longest_file, reading, lab_in, lab_of}
use Rattle.lab_file.specs.Notes.{has_note, IsNoted, IsNotedDraft, AreNoted, LabsAreNoted}

-- each answer is so
record Only {B : Type 0} (P : B → Type 0) (reading : Result B Refusal) : Type 0 where
  at : (x : B) → reading ≡ Ok x → P x

one : {B : Type 0} (P : B → Type 0) (x : B) → P x → Only P (Ok x)
one P x h = record { at = λ y is. let same : x ≡ y = cc in subst P same h }

none : {B : Type 0} (P : B → Type 0) (refusal : Refusal) → Only P (Err refusal)
none P refusal = record { at = λ y is. absurd (cc) }

-- what holds of each answer of the second step holds of the answer of both
behind : {A B : Type 0} {P : B → Type 0} (reading : Result A Refusal) {next : A → Result B Refusal}
    → ((x : A) → reading ≡ Ok x → Only P (next x)) → Only P (reading >>= next)
behind (Ok x) h = h x refl
behind (Err refusal) h = none _ refusal

either : {B : Type 0} {P : B → Type 0} (test : Bool) {this that : Result B Refusal} → Only P this → Only P that
    → Only P (if test then this else that)
either true h i = h
either false h i = i

-- a plug that is found by its name has a note
found : (notes : List PlugNote) (text name : List ℕ) → plug_named notes text ≡ Some name → has_note notes name ≡ true
found [] text name h = absurd (cc)
found (note ∷ notes) text name h =
    elim (cases_Bool (bytes_eq text note.name)) [
      | inl same ↦
          let is : Some note.name ≡ Some name = rw same at h in
          let named : note.name ≡ name = cc in
          rw ((bytes_eq-Decides note.name name).1 named) refl
      | inr other ↦
          let later : has_note notes name ≡ true = found notes text name (rw other at h) in
          rw later (or-true (bytes_eq note.name name))
    ]

vector_noted : (notes : List PlugNote) (entry : ℕ) (tree : Members) → Only (IsNoted notes) (vector_of entry tree)
unfolding vector_of
vector_noted notes entry tree =
    behind (whole_at (at entry key.Den) 1 1000 tree) (λ den _.
    behind (whole_at (at entry key.Opening) 0 den tree) (λ opening _.
    behind (wholes_at (at entry key.Weights) 4 den tree) (λ weights _.
    one _ _ (λ is. absurd (cc)))))

weights_noted : (notes : List PlugNote) (entry den own other first : ℕ) (tree : Members)
    → Only (IsNoted notes) (table_weights entry den own other first tree)
unfolding table_weights
weights_noted notes entry den own other first tree =
    behind (wholes_at (at entry key.Opening) (max (max own other) first) den tree) (λ opening _.
    behind (wholes_at (at entry key.Table) (2 ^ (own + other + first)) den tree) (λ table _.
    one _ _ (λ is. absurd (cc))))

table_noted : (notes : List PlugNote) (entry : ℕ) (tree : Members) → Only (IsNoted notes) (table_of entry tree)
unfolding table_of
table_noted notes entry tree =
    behind (whole_at (at entry key.Den) 1 1000 tree) (λ den _.
    behind (whole_at (at entry key.Own) 0 4 tree) (λ own _.
    behind (whole_at (at entry key.Other) 0 4 tree) (λ other _.
    behind (whole_at (at entry key.First) 0 4 tree) (λ first _.
    either (nat_lt 8 (own + other + first)) (none _ _) (weights_noted notes entry den own other first tree)))))

name_found : (notes : List PlugNote) (entry : ℕ) (text name : List ℕ) (read : Option (List ℕ)) → read ≡ plug_named notes text
    → or_refuse (UnknownPlug entry) read ≡ Ok name → plug_named notes text ≡ Some name
name_found notes entry text name None read h = absurd (cc)
name_found notes entry text name (Some x) read h = cc

plug_noted : (notes : List PlugNote) (entry : ℕ) (tree : Members) → Only (IsNoted notes) (plug_of notes entry tree)
unfolding plug_of
plug_noted notes entry tree =
    behind (text_at (at entry key.Plug) tree) (λ text _.
    behind (or_refuse (UnknownPlug entry) (plug_named notes text)) (λ name h.
    one _ _ (λ is. found notes text name (name_found notes entry text name (plug_named notes text) refl h))))

rows_noted : (notes : List PlugNote) (entry start : ℕ) (opening : Move) (rows : List (Option Transition))
    → Only (IsNoted notes) (machine_sheet entry start opening rows)
rows_noted notes entry start opening rows =
    behind (with_rows entry start [] rows) (λ kept _.
    either (list_all has_both (all_exits start kept)) (one _ _ (λ is. absurd (cc))) (none _ _))

ready_noted : (notes : List PlugNote) (reading : Result SheetData Refusal) → Only (IsNoted notes) reading → Only (IsNotedDraft notes) (ready reading)
ready_noted notes (Ok sheet) h = one _ _ (h.at sheet refl)
ready_noted notes (Err refusal) h = none _ refusal

in_lab_noted : (notes : List PlugNote) (entry start : ℕ) (opening : Move) (held : Data)
    → Only (IsNotedDraft notes) (machine_in_lab entry start opening held)
unfolding machine_in_lab
in_lab_noted notes entry start opening held =
    behind (array_of (at entry key.Rows) held) (λ rows _.
    ready_noted notes _ (rows_noted notes entry start opening (rows_in rows)))

in_file_noted : (notes : List PlugNote) (entry start : ℕ) (opening : Move) (held : Data)
    → Only (IsNotedDraft notes) (machine_in_file entry start opening held)
unfolding machine_in_file
in_file_noted notes entry start opening held =
    behind (text_of (at entry key.File) held) (λ text _.
    behind (or_refuse (BadName entry) (file_name_of text)) (λ file _. one _ _ tt))

from_noted : (notes : List PlugNote) (entry start : ℕ) (opening : Move) (rows file : Option Data)
    → Only (IsNotedDraft notes) (machine_from entry start opening rows file)
unfolding machine_from
from_noted notes entry start opening None None = none _ _
from_noted notes entry start opening (Some rows) (Some file) = none _ _
from_noted notes entry start opening (Some rows) None = in_lab_noted notes entry start opening rows
from_noted notes entry start opening None (Some file) = in_file_noted notes entry start opening file

machine_noted : (notes : List PlugNote) (entry : ℕ) (tree : Members) → Only (IsNotedDraft notes) (machine_of entry tree)
unfolding machine_of
machine_noted notes entry tree =
    behind (whole_at (at entry key.Start) 0 last_state tree) (λ start _.
    behind (text_at (at entry key.Opening) tree) (λ text _.
    behind (or_refuse (OutOfRange (at entry key.Opening)) (move_of text)) (λ opening _.
    from_noted notes entry start opening (found_at (at entry key.Rows) tree) (found_at (at entry key.File) tree))))

kind_noted : (notes : List PlugNote) (kind : List ℕ) (entry : ℕ) (tree : Members) → Only (IsNotedDraft notes) (draft_of_kind kind notes entry tree)
unfolding draft_of_kind
kind_noted notes kind entry tree =
    either (bytes_eq kind (codes "memory-one")) (ready_noted notes _ (vector_noted notes entry tree))
    (either (bytes_eq kind (codes "machine")) (machine_noted notes entry tree)
    (either (bytes_eq kind (codes "lookup")) (ready_noted notes _ (table_noted notes entry tree))
    (either (bytes_eq kind (codes "plug")) (ready_noted notes _ (plug_noted notes entry tree)) (none _ _))))

draft_noted : (notes : List PlugNote) (entry : ℕ) (tree : Members) → Only (IsNotedDraft notes) (draft_of notes entry tree)
unfolding draft_of
draft_noted notes entry tree = behind (text_at (at entry key.Kind) tree) (λ kind _. kind_noted notes kind entry tree)

-- an entry whose draft is
abbrev IsNotedEntry : List PlugNote → Entry → Type 0
IsNotedEntry notes entry = IsNotedDraft notes entry.draft

entry_noted : (notes : List PlugNote) (version : ℕ) (noise : FlipRate) (before : List Entry) (tree : Members)
    → Only (IsNotedEntry notes) (entry_of notes version noise before tree)
unfolding entry_of
entry_noted notes version noise before tree =
    behind (new_name (length before + 1) before tree) (λ name _.
    behind (draft_of notes (length before + 1) tree) (λ draft is.
    behind (entry_noise version noise (length before + 1) tree) (λ own _.
    one _ _ ((draft_noted notes (length before + 1) tree).at draft is))))

entries_noted : (notes : List PlugNote) (version : ℕ) (noise : FlipRate) (before : List Entry) (items : Items) → AreNoted notes before
    → Only (AreNoted notes) (entries_from notes version noise before items)
entries_noted notes version noise before no_items h = one _ _ h
entries_noted notes version noise before (item held rest) h =
    behind (keys.table_of (top key.Entry) held) (λ tree _.
    behind (entry_of notes version noise before tree) (λ entry is.
    entries_noted notes version noise (before ++ entry ∷ []) rest
    (All-push (IsNotedEntry notes) before entry h ((entry_noted notes version noise before tree).at entry is))))

array_noted : (notes : List PlugNote) (version : ℕ) (noise : FlipRate) (items : Items) → Only (AreNoted notes) (entries_of notes version noise items)
unfolding entries_of
array_noted notes version noise items =
    either (are_tables items)
    (either (nat_le 1 (item_count items) && nat_le (item_count items) 64) (entries_noted notes version noise [] items (All-nil (IsNotedEntry notes))) (none _ _))
    (none _ _)

key_noted : (notes : List PlugNote) (version : ℕ) (noise : FlipRate) (tree : Members) → Only (AreNoted notes) (entries_at notes version noise tree)
unfolding entries_at
key_noted notes version noise tree = behind (array_at (top key.Entry) tree) (λ items _. array_noted notes version noise items)

abbrev IsNotedLab : List PlugNote → LabData → Type 0
IsNotedLab notes lab = AreNoted notes lab.entries

document_noted : (notes : List PlugNote) (tree : Members) → Only (IsNotedLab notes) (lab_in notes tree)
unfolding lab_in
document_noted notes tree =
    behind (version_at tree) (λ version _.
    behind (game_of version tree) (λ game _.
    behind (entries_at notes version game.2 tree) (λ entries is.
    behind (jobs_of (names_of entries) tree) (λ jobs _.
    one _ _ ((key_noted notes version game.2 tree).at entries is)))))

lab_noted : (notes : List PlugNote) (bytes : List ℕ) → Only (IsNotedLab notes) (lab_of notes bytes)
unfolding lab_of
lab_noted notes bytes =
    either (nat_lt longest_file (length bytes)) (none _ _)
    (behind (or_refuse Syntax (reading bytes)) (λ tree _. document_noted notes tree))

records_noted : (notes : List PlugNote) (entry : ℕ) (machine : MachineFile) (held : List (List (List ℕ)))
    → Only (IsNoted notes) (sheet_of_records entry machine held)
records_noted notes entry machine [] = none _ _
records_noted notes entry machine (head ∷ rows) =
    either (is_head head) (rows_noted notes entry machine.start machine.opening (map row_of_record rows)) (none _ _)

csv_noted : (notes : List PlugNote) (entry : ℕ) (machine : MachineFile) (bytes : List ℕ) → Only (IsNoted notes) (csv_sheet entry machine bytes)
csv_noted notes entry machine bytes =
    either (nat_lt 1048576 (length bytes)) (none _ _) (search records_noted)

with_noted : (notes : List PlugNote) (number : ℕ) (draft : Draft) (bytes : List ℕ) → IsNotedDraft notes draft
    → Only (IsNotedDraft notes) (draft_with number draft bytes)
with_noted notes number (Ready sheet) bytes h = one _ _ h
with_noted notes number (FromFile machine) bytes h = ready_noted notes _ (csv_noted notes number machine bytes)

pub labs_are_noted : LabsAreNoted
labs_are_noted = record {
  read = λ notes bytes lab is. (lab_noted notes bytes).at lab is;
  filed = λ notes number draft made bytes is h. (with_noted notes number draft bytes h).at made is;
}
