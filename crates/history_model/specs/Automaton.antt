-- Automata as plain data: what a grid, a sheet and a boxed player are seen as.
use Rattle.std.specs.Prelude.{ℕ, ◌≡◌, ◌⊎◌, ◌<◌, ◌≤◌, List, length, slice_index, slice_index_or}
use Rattle.history_model.specs.declared.grid.GridRow.{GridRow}
use Rattle.history_model.specs.declared.moves.Move.{Move}
use Rattle.history_model.specs.declared.moves.Move.TheVariants.{C, D}
use Rattle.history_model.specs.declared.moves.Play.{Play}

-- the weight of C at a row, and the next row after each play of (own move, other's move)
pub record Row : Type 0 where
  pub weight : ℕ
  pub cc : ℕ
  pub cd : ℕ
  pub dc : ℕ
  pub dd : ℕ

-- weights are over den
pub record Automaton : Type 0 where
  pub den : ℕ
  pub start : ℕ
  pub rows : List Row

-- a row of a grid as data
abbrev pub plain_row : GridRow → Row
plain_row row =
    record { weight = row.weight; cc = slice_index row.next 0; cd = slice_index row.next 1; dc = slice_index row.next 2; dd = slice_index row.next 3 }

-- what stands where there is no row
abbrev pub no_row : Row
no_row = record { weight = 0; cc = 0; cd = 0; dc = 0; dd = 0 }

abbrev pub row_at : Automaton → ℕ → Row
row_at a row = slice_index_or a.rows row no_row

abbrev pub weight_at : Automaton → ℕ → ℕ
weight_at a row = (row_at a row).weight

-- the row after a play
abbrev pub next_of : Row → Move → Move → ℕ
next_of row C C = row.cc
next_of row C D = row.cd
next_of row D C = row.dc
next_of row D D = row.dd

abbrev pub next_row : Automaton → ℕ → Play → ℕ
next_row a row play = next_of (row_at a row) play.mine play.theirs

-- 1 to 512 rows; no weight is above the denominator, and the start and each next row are rows
pub record IsAutomaton (a : Automaton) : Type 0 where
  pub some : 1 ≤ a.den
  pub few : a.den ≤ 1000
  pub few_rows : length a.rows ≤ 512
  pub started : a.start < length a.rows
  pub weighed : (row : ℕ) → row < length a.rows → weight_at a row ≤ a.den
  pub closed : (row : ℕ) (mine theirs : Move) → row < length a.rows → next_of (row_at a row) mine theirs < length a.rows

-- every weight is 0 or the denominator
abbrev pub IsSure : Automaton → Type 0
IsSure a = (row : ℕ) → row < length a.rows → (weight_at a row ≡ 0) ⊎ (weight_at a row ≡ a.den)
