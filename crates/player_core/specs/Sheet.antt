-- Sheets: one strategy as it stands in a file.
use Rattle.std.specs.Prelude.{ℕ, ◌≡◌, ◌+◌, ◌*◌, ◌/◌, ◌^◌, ◌≤◌, ◌<◌, List, [], length, max, slice_index}
use Rattle.history_model.specs.declared.moves.Move.{Move}
use Rattle.history_model.specs.declared.moves.Move.TheVariants.{C, D}
use Rattle.history_model.specs.Name.{IsName}
use Rattle.player_core.specs.declared.kind.Kind.{Kind}
use Rattle.player_core.specs.declared.kind.Kind.TheVariants.{MemoryOne, Machine, Lookup, Plug}
use Rattle.player_core.specs.State.{Lasting, no_name}

-- the numbers and lists of a sheet; what they mean is the kind's
pub record SheetData : Type 0 where
  pub kind : Kind
  pub den : ℕ
  pub own : ℕ
  pub other : ℕ
  pub first : ℕ
  pub opening : List ℕ
  pub table : List ℕ
  pub next : List ℕ
  pub plug : List ℕ

-- C as 0 and D as 1
abbrev pub digit : Move → ℕ
digit C = 0
digit D = 1

-- none of the numbers is above the limit
abbrev pub AreWithin : ℕ → List ℕ → Type 0
AreWithin limit numbers = (place : ℕ) → place < length numbers → slice_index numbers place ≤ limit

-- it looks back at no plays, and names no plug
pub record IsPlain (sheet : SheetData) : Type 0 where
  pub own_none : sheet.own ≡ 0
  pub other_none : sheet.other ≡ 0
  pub first_none : sheet.first ≡ 0
  pub unnamed : sheet.plug ≡ no_name

-- the weights of C are over a denominator from 1 to 1000
pub record IsWeighted (sheet : SheetData) : Type 0 where
  pub some : 1 ≤ sheet.den
  pub few : sheet.den ≤ 1000
  pub opening_within : AreWithin sheet.den sheet.opening
  pub table_within : AreWithin sheet.den sheet.table

-- an opening, and a weight for each last play: CC, CD, DC, DD
pub record IsVector (sheet : SheetData) : Type 0 where
  pub weighted : IsWeighted sheet
  pub one_opening : length sheet.opening ≡ 1
  pub four_weights : length sheet.table ≡ 4
  pub no_next : sheet.next ≡ []
  pub plain : IsPlain sheet

-- the number of states of a machine
abbrev pub states : SheetData → ℕ
states sheet = length sheet.next / 2

-- from each state after hearing C and after hearing D: the play, 1 for C, and the state that follows
pub record IsMachine (sheet : SheetData) : Type 0 where
  pub weighted : IsWeighted sheet
  pub unit : sheet.den ≡ 1
  pub one_opening : length sheet.opening ≡ 1
  pub some_states : 1 ≤ states sheet
  pub few_states : states sheet ≤ 256
  pub table_whole : length sheet.table ≡ 2 * states sheet
  pub next_whole : length sheet.next ≡ 2 * states sheet
  pub closed : (place : ℕ) → place < length sheet.next → slice_index sheet.next place < states sheet
  pub plain : IsPlain sheet

-- how far a lookup table looks back
abbrev pub depth : SheetData → ℕ
depth sheet = max (max sheet.own sheet.other) sheet.first

-- an opening for each turn below the depth, and a weight for each choice of the plays that it looks at
pub record IsTable (sheet : SheetData) : Type 0 where
  pub weighted : IsWeighted sheet
  pub own_few : sheet.own ≤ 4
  pub other_few : sheet.other ≤ 4
  pub first_few : sheet.first ≤ 4
  pub all_few : sheet.own + sheet.other + sheet.first ≤ 8
  pub openings : length sheet.opening ≡ depth sheet
  pub weights : length sheet.table ≡ 2 ^ (sheet.own + sheet.other + sheet.first)
  pub no_next : sheet.next ≡ []
  pub unnamed : sheet.plug ≡ no_name

-- a name alone
pub record IsPlugName (sheet : SheetData) : Type 0 where
  pub unit : sheet.den ≡ 1
  pub own_none : sheet.own ≡ 0
  pub other_none : sheet.other ≡ 0
  pub first_none : sheet.first ≡ 0
  pub no_opening : sheet.opening ≡ []
  pub no_table : sheet.table ≡ []
  pub no_next : sheet.next ≡ []
  pub named : IsName sheet.plug

-- a sheet is what its kind says
pub record IsSheet (sheet : SheetData) : Type 0 where
  pub memory_one : sheet.kind ≡ MemoryOne → IsVector sheet
  pub machine : sheet.kind ≡ Machine → IsMachine sheet
  pub lookup : sheet.kind ≡ Lookup → IsTable sheet
  pub plug : sheet.kind ≡ Plug → IsPlugName sheet

-- whether a player takes a sheet: the kinds are equal, and for a plug the names are
pub record Takes (player : Lasting) (sheet : SheetData) : Type 0 where
  pub kind : player.kind ≡ sheet.kind
  pub name : sheet.kind ≡ Plug → player.name ≡ sheet.plug
