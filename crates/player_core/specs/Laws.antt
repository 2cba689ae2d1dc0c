-- Laws of sides and benches, each proved once; a caller has one by calling the function that ensures it.
use Rattle.std.specs.Prelude.{ℕ, ◌≡◌, ◌↔◌, ◌+◌, ◌^◌, ◌≤◌, ◌<◌, IsTrue, List, length, slice_set}
use Rattle.history_model.specs.Automaton.{Automaton, IsSure}
use Rattle.history_model.specs.History.{History, walk}
use Rattle.player_core.specs.State.{PlayerState, Lasting, more, after_plays, state_at, lasting_at, lasting_of}
use Rattle.player_core.specs.Sheet.{SheetData, Takes}
use Rattle.player_core.specs.AutomatonOf.{automaton_of, loaded}
use Rattle.player_core.specs.Fits.{SidesFit, IsPlaceOf}
use Rattle.player_core.specs.Entry.{entry_automaton}
use Rattle.player_core.specs.Bench.{IsKept, KeepsPlugs, is_sure}
use Rattle.player_core.specs.Counts.{Grew, GrewAtLeast, Advanced, ResumedAtLeast}

-- the law: plays move the mark along the automaton from where it was, each is counted, and nothing else changes
abbrev pub PlaysWalk : Type 0
PlaysWalk =
    (state : PlayerState) (history : History) → state.turns < 2 ^ 64 →
    after_plays state history
    ≡ record state { mark = walk state.lasting.automaton state.mark history; turns = more state.turns (length history) }

-- the law: one place of a bench that fits takes a sheet, at most
abbrev pub OnePlaceTakes : Type 0
OnePlaceTakes =
    (left right : List Lasting) (sheet : SheetData) (j k : ℕ) → SidesFit left right → j < length left → k < length left →
    Takes (lasting_at left j) sheet → Takes (lasting_at left k) sheet → j ≡ k

-- the laws of a load: a player that takes the sheet keeps its kind and its name, and a plug its automaton
abbrev pub LoadKeeps : Type 0
LoadKeeps =
    (state : PlayerState) (sheet : SheetData) → Takes state.lasting sheet → IsKept state.lasting (loaded state sheet).lasting

-- the laws of keeping: it goes on from step to step; a bench that fits goes on fitting, and a place goes on taking its sheet
pub record KeepingLasts : Type 0 where
  pub none : (players : List Lasting) → KeepsPlugs players players
  pub both : (first second third : List Lasting) → KeepsPlugs first second → KeepsPlugs second third → KeepsPlugs first third
  pub fits : (left right left_now right_now : List Lasting) → KeepsPlugs left left_now → KeepsPlugs right right_now
      → SidesFit left right → SidesFit left_now right_now
  pub place : (left right left_now right_now : List Lasting) (sheet : SheetData) (k : ℕ) → KeepsPlugs left left_now
      → KeepsPlugs right right_now → IsPlaceOf left right sheet k → IsPlaceOf left_now right_now sheet k

-- the laws of what a sheet plays on a bench that fits: it stays, and each side's player that takes the sheet plays it from then on
pub record EntriesPlay : Type 0 where
  pub kept : (left right left_now : List Lasting) (sheet : SheetData) → SidesFit left right → KeepsPlugs left left_now →
      entry_automaton left_now sheet ≡ entry_automaton left sheet
  pub left : (left right : List Lasting) (sheet : SheetData) (k : ℕ) → SidesFit left right
      → IsPlaceOf left right sheet k → automaton_of sheet (lasting_at left k).automaton ≡ entry_automaton left sheet
  pub right : (left right : List Lasting) (sheet : SheetData) (k : ℕ) → SidesFit left right
      → IsPlaceOf left right sheet k → automaton_of sheet (lasting_at right k).automaton ≡ entry_automaton left sheet

-- the laws of a change at one place: what lasts, what is kept, and the counts
pub record OneChange : Type 0 where
  pub read : (states : List PlayerState) (k : ℕ) → lasting_at (lasting_of states) k ≡ (state_at states k).lasting
  pub lasting : (old : List PlayerState) (k : ℕ) (state : PlayerState)
      → lasting_of (slice_set old k state) ≡ slice_set (lasting_of old) k state.lasting
  pub kept : (old new : List PlayerState) (k : ℕ) (state : PlayerState) → new ≡ slice_set old k state
      → IsKept (state_at old k).lasting state.lasting → KeepsPlugs (lasting_of old) (lasting_of new)
  pub turns : (old new : List PlayerState) (k n : ℕ) (state : PlayerState) → new ≡ slice_set old k state → k < length old
      → (state_at old k).turns < 2 ^ 64 → state.turns ≡ more (state_at old k).turns n → Advanced n old new
  pub returns : (old new : List PlayerState) (k n : ℕ) (state : PlayerState) → new ≡ slice_set old k state → k < length old
      → (state_at old k).returns < 2 ^ 64 → state.returns ≡ more (state_at old k).returns n → ResumedAtLeast n old new

-- the laws of counts: growth adds up from step to step
pub record CountsAddUp : Type 0 where
  pub none : (counts : List ℕ) → Grew 0 counts counts
  pub both : (j k : ℕ) (first second third : List ℕ) → Grew j first second → Grew k second third → Grew (j + k) first third
  pub least : (k : ℕ) (old new : List ℕ) → Grew k old new → GrewAtLeast k old new
  pub less : (j k : ℕ) (old new : List ℕ) → j ≤ k → GrewAtLeast k old new → GrewAtLeast j old new
  pub least_both : (j k : ℕ) (first second third : List ℕ) → GrewAtLeast j first second → GrewAtLeast k second third
      → GrewAtLeast (j + k) first third

-- the law: the test of sureness is exact
abbrev pub SureIsTested : Type 0
SureIsTested = (a : Automaton) → IsTrue (is_sure a) ↔ IsSure a
