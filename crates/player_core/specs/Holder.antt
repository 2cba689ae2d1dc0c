-- Players that hold their rows in a table with room for every automaton.
use Rattle.std.specs.Prelude.{ℕ, ◌≡◌, ◌+◌, ◌<◌, ◌≤◌, ◌^◌, List, [], ◌∷◌, length, map, replicate, slice_set, slice_index_or, take}
use Rattle.history_model.specs.declared.grid.GridRow.{GridRow}
use Rattle.history_model.specs.Automaton.{Automaton, Row, no_row, plain_row}
use Rattle.player_core.specs.declared.kind.Kind.{Kind}
use Rattle.player_core.specs.declared.sheet_player.Front.{Front}
use Rattle.player_core.specs.State.{PlayerState, IsState, no_name}

-- a player of a kind, with no name of its own
abbrev pub unnamed : Kind → Automaton → ℕ → ℕ → ℕ → PlayerState
unnamed kind automaton mark turns returns =
    record { lasting = record { kind = kind; name = no_name; automaton = automaton }; mark = mark; turns = turns; returns = returns }

-- the automaton at the front of a table
abbrev pub automaton_in : Front → List GridRow → Automaton
automaton_in front table = record { den = front.den; start = front.start; rows = map plain_row (take front.rows table) }

-- the player of the automaton at the front of a table
abbrev pub holder : Kind → Front → List GridRow → ℕ → ℕ → ℕ → PlayerState
holder kind front table mark turns returns = unnamed kind (automaton_in front table) mark turns returns

-- a player's state, and a table with room for every automaton
pub record IsHolder (state : PlayerState) (places used : ℕ) : Type 0 where
  pub valid : IsState state
  pub room : places ≡ 512
  pub within : used ≤ places

-- the automaton of one row that always plays C
abbrev pub cooperator : Automaton
cooperator = record { den = 1; start = 0; rows = record { weight = 1; cc = 0; cd = 0; dc = 0; dd = 0 } ∷ [] }

abbrev pub cooperate : GridRow
cooperate = record { weight = 1; next = 0 ∷ 0 ∷ 0 ∷ 0 ∷ [] }

-- a player of a kind that has taken no sheet yet
abbrev pub without_sheet : Kind → PlayerState
without_sheet kind = unnamed kind cooperator 0 0 0

-- the laws of a table: rows are written over its first one by one, and a table that is made of one row holds a new player
pub record RowsAreHeld : Type 0 where
  pub more : (table : List GridRow) (rows : List Row) (k : ℕ) (row : GridRow) → k < length table → k < length rows
      → map plain_row (take k table) ≡ take k rows → plain_row row ≡ slice_index_or rows k no_row
      → map plain_row (take (k + 1) (slice_set table k row)) ≡ take (k + 1) rows
  pub all : (table : List GridRow) (rows : List Row) (k n : ℕ) → k ≡ n → length rows ≡ n
      → map plain_row (take k table) ≡ take k rows → map plain_row (take n table) ≡ rows
  pub new : (kind : Kind) (table : List GridRow) (turns returns : ℕ) → turns < 2 ^ 64 → returns < 2 ^ 64 → table ≡ replicate 512 cooperate
      → IsHolder (holder kind (record { den = 1; start = 0; rows = 1 }) table 0 turns returns) (length table) 1
