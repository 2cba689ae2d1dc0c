-- Loops over the places of a side: what is known of the places below k.
use Rattle.std.proofs.Common.{◌≡◌, ◌≢◌, ℕ, ◌≤◌, ◌<◌, List, [], ◌++◌, length, map, take, drop, sym, ◌∙◌, ap, arith}
use Rattle.std.proofs.lemmas.List.{append-nil, drop_all, length-map}
use Rattle.player_core.specs.declared.bench.PlugNote.{PlugNote}
use Rattle.player_core.specs.State.{PlayerState, at_start, lasting_of, lasting_at}
use Rattle.player_core.specs.Sheet.{SheetData, Takes}
use Rattle.player_core.specs.Fits.{IsTwin, first_plug, kind_of_place}
use Rattle.player_core.specs.Counts.{NoneFell, returns_of, turns_of}
use Rattle.player_core.specs.Bench.{note_of, notes_of}

pub record KindsSoFar (states : List PlayerState) (k end : ℕ) : Type 0 where
  pub kinds : (j : ℕ) → j < k → (lasting_at (lasting_of states) j).kind ≡ kind_of_place j
  pub end_is : end ≡ length states

pub record NamesSoFar (states : List PlayerState) (k end : ℕ) : Type 0 where
  pub differ : (i j : ℕ) → first_plug ≤ i → i < j → j < k
      → (lasting_at (lasting_of states) i).name ≢ (lasting_at (lasting_of states) j).name
  pub end_is : end ≡ length states

-- the name at k differs from those of the plugs below j
abbrev pub DiffersBelow : List PlayerState → ℕ → ℕ → Type 0
DiffersBelow states k j =
    (i : ℕ) → first_plug ≤ i → i < j → (lasting_at (lasting_of states) i).name ≢ (lasting_at (lasting_of states) k).name

pub record TwinsSoFar (left right left_now right_now : List PlayerState) (k end : ℕ) : Type 0 where
  pub twins : (j : ℕ) → first_plug ≤ j → j < k → IsTwin (lasting_at (lasting_of left) j) (lasting_at (lasting_of right) j)
  pub left_same : lasting_of left_now ≡ lasting_of left
  pub right_same : lasting_of right_now ≡ lasting_of right
  pub left_length : length left_now ≡ length left
  pub right_length : length right_now ≡ length right
  pub left_fell : NoneFell (returns_of left) (returns_of left_now)
  pub right_fell : NoneFell (returns_of right) (returns_of right_now)
  pub end_is : end ≡ length left

pub record RestartedSoFar (begin now : List PlayerState) (k end : ℕ) : Type 0 where
  pub seen : now ≡ map at_start (take k begin) ++ drop k begin
  pub end_is : end ≡ length begin
  pub length_same : length now ≡ length begin
  pub fell : NoneFell (returns_of begin) (returns_of now)

-- the notes so far and those to come are all notes
pub record NotesSoFar (begin now : List PlayerState) (notes : List PlugNote) (k end : ℕ) : Type 0 where
  pub lasting_same : lasting_of now ≡ lasting_of begin
  pub turns_same : turns_of now ≡ turns_of begin
  pub fell : NoneFell (returns_of begin) (returns_of now)
  pub length_same : length now ≡ length begin
  pub seen : notes ++ map note_of (drop k (lasting_of begin)) ≡ notes_of (lasting_of begin)
  pub end_is : end ≡ length begin

-- at the end there are all notes
pub all_noted : (begin now : List PlayerState) (notes : List PlugNote) (k end : ℕ) → NotesSoFar begin now notes k end → end ≤ k → notes ≡ notes_of (lasting_of begin)
all_noted begin now notes k end h past =
    let none_left : drop k (lasting_of begin) ≡ [] =
    drop_all k (lasting_of begin) (omega (arith, past, h.end_is, length-map begin (λ state. state.lasting))) in
    sym (append-nil notes) ∙ sym (ap (λ rest. notes ++ map note_of rest) none_left) ∙ h.seen

-- no player below k takes the sheet
pub record NoneTakes (states : List PlayerState) (sheet : SheetData) (k end : ℕ) : Type 0 where
  pub none : (j : ℕ) → j < k → ¬ Takes (lasting_at (lasting_of states) j) sheet
  pub end_is : end ≡ length states
