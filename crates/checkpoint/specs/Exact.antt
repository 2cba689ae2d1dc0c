-- The law: checkpoints and rows in range are one another's texts and readings.
use Rattle.std.specs.Prelude.{ℕ, ◌≡◌, ◌^◌, ◌<◌, ◌≤◌, ◌==◌, Bool, true, All, List, [], ◌∷◌, ◌++◌, length, Ok}
use Rattle.std.specs.List.{AllZip}
use Rattle.history_model.specs.Game.{Payoffs, IsGame}
use Rattle.history_model.specs.Name.{IsName}
use Rattle.history_model.specs.Tally.{total}
use Rattle.rota_rows.specs.declared.row.RotaRow.{RotaRow}
use Rattle.checkpoint.specs.declared.expected.ExpectedMatch.{ExpectedMatch}
use Rattle.checkpoint.specs.Checkpoints.{checkpoint_of}
use Rattle.checkpoint.specs.Texts.{rows_text}

-- ---- ranges

-- a row of an expected match: its entries, marks that are rows of what they play, and few turns
pub record IsRowFor (pair : ExpectedMatch) (row : RotaRow) : Type 0 where
  pub left : row.left ≡ pair.left
  pub right : row.right ≡ pair.right
  pub left_mark : row.left_mark < pair.left_rows
  pub right_mark : row.right_mark < pair.right_rows
  pub few_turns : total row.tally ≤ 10 ^ 12

-- a row for each expected match
abbrev pub AreRowsFor : List ExpectedMatch → List RotaRow → Type 0
AreRowsFor expected rows = AllZip IsRowFor expected rows

-- a match of two names, whose entries play automata of fewer than 2^32 rows
pub record IsExpected (pair : ExpectedMatch) : Type 0 where
  pub left_name : IsName pair.left_name
  pub right_name : IsName pair.right_name
  pub left_rows : pair.left_rows < 2 ^ 32
  pub right_rows : pair.right_rows < 2 ^ 32

-- the last byte, where there is one
abbrev pub last_or : ℕ → List ℕ → ℕ
last_or x [] = x
last_or x (y ∷ ys) = last_or y ys

-- whole lines: nothing stands behind the last LF
abbrev pub are_lines : List ℕ → Bool
are_lines head = last_or 10 head == 10

-- what is known before a checkpoint is read
pub record IsKnown (head : List ℕ) (expected : List ExpectedMatch) (game : Payoffs) (offset : ℕ) : Type 0 where
  pub whole_lines : are_lines head ≡ true
  pub few : length expected ≤ 256
  pub each : All IsExpected expected
  pub payoffs : IsGame game
  pub near : offset ≤ 1000000

-- ---- laws

-- the text of a checkpoint
abbrev pub checkpoint_text : List ℕ → List ExpectedMatch → Payoffs → ℕ → List RotaRow → List ℕ
checkpoint_text head expected game offset rows = head ++ rows_text game offset 0 expected rows

pub record CheckpointsAreExact : Type 0 where
  -- the text of rows in range is read as these rows
  pub again : (head : List ℕ) (expected : List ExpectedMatch) (game : Payoffs) (offset : ℕ) (rows : List RotaRow)
      → IsKnown head expected game offset → AreRowsFor expected rows → checkpoint_of head expected game offset (checkpoint_text head expected game offset rows) ≡ Ok rows
  -- bytes that are read as rows are exactly the text of these
  pub takes : (head : List ℕ) (expected : List ExpectedMatch) (game : Payoffs) (offset : ℕ) (bytes : List ℕ) (rows : List RotaRow)
      → IsKnown head expected game offset → checkpoint_of head expected game offset bytes ≡ Ok rows → bytes ≡ checkpoint_text head expected game offset rows
  -- and these are in range
  pub range : (head : List ℕ) (expected : List ExpectedMatch) (game : Payoffs) (offset : ℕ) (bytes : List ℕ) (rows : List RotaRow)
      → checkpoint_of head expected game offset bytes ≡ Ok rows → AreRowsFor expected rows
  -- whole lines are whole with one more in front
  pub lines : (line more : List ℕ) → are_lines more ≡ true → are_lines (line ++ 10 ∷ more) ≡ true
