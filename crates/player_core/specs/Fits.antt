-- When a bench fits, and which place takes a sheet.
use Rattle.std.specs.Prelude.{ℕ, ◌≡◌, ◌≢◌, ◌+◌, ◌≤◌, ◌<◌, List, [], ◌∷◌, length, slice_index_or}
use Rattle.player_core.specs.declared.kind.Kind.{Kind}
use Rattle.player_core.specs.declared.kind.Kind.TheVariants.{MemoryOne, Machine, Lookup, Plug}
use Rattle.player_core.specs.State.{BenchState, Lasting, lasting_at, lasting_of}
use Rattle.player_core.specs.Sheet.{SheetData, Takes}

-- the kinds of the first places, in this order; behind them stand plugs
abbrev pub fixed_kinds : List Kind
fixed_kinds = MemoryOne ∷ Machine ∷ Lookup ∷ []

abbrev pub kind_of_place : ℕ → Kind
kind_of_place k = slice_index_or fixed_kinds k Plug

-- the place of the first plug
abbrev pub first_plug : ℕ
first_plug = length fixed_kinds

-- each place has its kind
abbrev pub HaveKinds : List Lasting → Type 0
HaveKinds players = (k : ℕ) → k < length players → (lasting_at players k).kind ≡ kind_of_place k

-- no two plugs have one name
abbrev pub NamesDiffer : List Lasting → Type 0
NamesDiffer players =
    (j k : ℕ) → first_plug ≤ j → j < k → k < length players → (lasting_at players j).name ≢ (lasting_at players k).name

-- equal names and equal automata
pub record IsTwin (left right : Lasting) : Type 0 where
  pub name : left.name ≡ right.name
  pub automaton : left.automaton ≡ right.automaton

-- the plugs of the two sides are the same, place by place
abbrev pub AreTwins : List Lasting → List Lasting → Type 0
AreTwins left right = (k : ℕ) → first_plug ≤ k → k < length left → IsTwin (lasting_at left k) (lasting_at right k)

-- sides of one length, with the fixed kinds and at most 61 plugs
pub record HaveLength (left right : List Lasting) : Type 0 where
  pub some : first_plug ≤ length left
  pub few : length left ≤ first_plug + 61
  pub even : length right ≡ length left

-- what is seen of the two sides with no look at an automaton
pub record HaveShape (left right : List Lasting) : Type 0 where
  pub lengths : HaveLength left right
  pub left_kinds : HaveKinds left
  pub right_kinds : HaveKinds right
  pub left_names : NamesDiffer left
  pub right_names : NamesDiffer right

-- the two sides of a bench fit
pub record SidesFit (left right : List Lasting) : Type 0 where
  pub shape : HaveShape left right
  pub twins : AreTwins left right

-- a bench fits
abbrev pub Fits : BenchState → Type 0
Fits bench = SidesFit (lasting_of bench.left) (lasting_of bench.right)

-- the sheet is a plug whose name no object has
pub record NoPlugNamed (left : List Lasting) (sheet : SheetData) : Type 0 where
  pub plug : sheet.kind ≡ Plug
  pub none : (k : ℕ) → first_plug ≤ k → k < length left → (lasting_at left k).name ≢ sheet.plug

-- the players of a place take the sheet on both sides
pub record IsPlaceOf (left right : List Lasting) (sheet : SheetData) (k : ℕ) : Type 0 where
  pub left_inside : k < length left
  pub right_inside : k < length right
  pub left_takes : Takes (lasting_at left k) sheet
  pub right_takes : Takes (lasting_at right k) sheet

-- a place of a bench takes the sheet
abbrev pub IsPlaceOn : BenchState → SheetData → ℕ → Type 0
IsPlaceOn bench sheet k = IsPlaceOf (lasting_of bench.left) (lasting_of bench.right) sheet k
