-- Checkpoints: the report of a rota, read again for matches that are known. Lines are tested in order, each by its tests in
-- order, and the first fault is the answer.
use Rattle.std.specs.Prelude.{ℕ, ◌+◌, ◌==◌, ◌&&◌, Bool, false, nat_lt, List, [], ◌∷◌, length, codes, Option, None, Result, Ok, Err, if◌then◌else◌}
use Rattle.std.specs.Str.{bytes_eq}
use Rattle.history_model.specs.Game.{Payoffs}
use Rattle.texts.specs.Cuts.{before, behind}
use Rattle.texts.specs.Forms.{Form}
use Rattle.texts.specs.Grammar.{pieces}
use Rattle.rota_rows.specs.declared.row.RotaRow.{RotaRow}
use Rattle.rota_rows.specs.declared.lines.ShownRow.{ShownRow}
use Rattle.rota_rows.specs.Lines.{row_form_with}
use Rattle.checkpoint.specs.declared.expected.ExpectedMatch.{ExpectedMatch}
use Rattle.checkpoint.specs.declared.fault.Fault.{Fault}
use Rattle.checkpoint.specs.declared.fault.Fault.TheVariants as faults
use Rattle.checkpoint.specs.Marks.{any_mark}
use Rattle.checkpoint.specs.Steps.{◌>>=◌, found, checked}
use Rattle.checkpoint.specs.Texts.{score_line}

-- ---- lines

-- line k in front, which an LF ends, and the pieces behind it
abbrev pub line_at : ℕ → List (List ℕ) → Result (List ℕ × List (List ℕ)) Fault
line_at k (line ∷ piece ∷ more) = Ok (line, piece ∷ more)
line_at k _ = Err (faults.BadLine k)

-- nothing stands behind the last LF
abbrev pub is_all : List (List ℕ) → Bool
is_all (last ∷ []) = length last == 0
is_all _ = false

-- the head's lines as they are, of which the first is line k; what comes is the next line's number, and the pieces behind the head
abbrev pub behind_head : List (List ℕ) → ℕ → List (List ℕ) → Result (ℕ × List (List ℕ)) Fault
behind_head (own ∷ piece ∷ more) k ps = do
  x ← line_at k ps
  rest ← checked (faults.BadLine k) (bytes_eq x.0 own) x.1
  behind_head (piece ∷ more) (k + 1) rest
behind_head _ k ps = Ok (k, ps)

-- ---- where a match stands

-- what a text shows behind `row|`, by a form of its marks
abbrev pub row_in_with : Form ℕ → List ℕ → Option ShownRow
row_in_with mark line = if bytes_eq (before 124 line) (codes "row") then (row_form_with mark).read (behind 124 line) else None

-- the same with marks of any size
abbrev pub row_in : List ℕ → Option ShownRow
row_in line = row_in_with any_mark line

-- the names are those of the match
abbrev pub has_names : ExpectedMatch → ShownRow → Bool
has_names pair x = bytes_eq x.left pair.left_name && bytes_eq x.right pair.right_name

-- each mark is a row of what its entry plays
abbrev pub has_marks : ExpectedMatch → ShownRow → Bool
has_marks pair x = nat_lt x.left_mark pair.left_rows && nat_lt x.right_mark pair.right_rows

-- the match with places in place of its names
abbrev pub placed : ExpectedMatch → ShownRow → RotaRow
placed pair x = record { left = pair.left; right = pair.right; left_mark = x.left_mark; right_mark = x.right_mark; tally = x.tally }

-- where match m stands by what line k shows
abbrev pub row_by : ExpectedMatch → ℕ → ℕ → Option ShownRow → Result RotaRow Fault
row_by pair m k shown = do
  x ← found (faults.BadLine k) shown
  x ← checked (faults.BadLine k) (x.number == m) x
  x ← checked (faults.WrongPair k) (has_names pair x) x
  x ← checked (faults.BadMark k) (has_marks pair x) x
  Ok (placed pair x)

abbrev pub row_at : ExpectedMatch → ℕ → ℕ → List ℕ → Result RotaRow Fault
row_at pair m k line = row_by pair m k (row_in line)

-- ---- all matches

-- where match m stands by lines k and k + 1, of which the second shows what the first is paid; and the pieces behind both
abbrev pub next_match : Payoffs → ℕ → ExpectedMatch → ℕ → ℕ → List (List ℕ) → Result (RotaRow × List (List ℕ)) Fault
next_match game offset pair m k ps = do
  x ← line_at k ps
  row ← row_at pair m k x.0
  y ← line_at (k + 1) x.1
  rest ← checked (faults.BadLine (k + 1)) (bytes_eq y.0 (score_line game offset m row)) y.1
  Ok (row, rest)

-- line k is `end`, and nothing stands behind it
abbrev pub end_at : ℕ → List (List ℕ) → Result (List RotaRow) Fault
end_at k ps = do
  x ← line_at k ps
  rest ← checked (faults.BadLine k) (bytes_eq x.0 (codes "end")) x.1
  checked (faults.BadLine (k + 1)) (is_all rest) []

-- the matches from number m and line k on, and the end
abbrev pub matches_at : Payoffs → ℕ → List ExpectedMatch → ℕ → ℕ → List (List ℕ) → Result (List RotaRow) Fault
matches_at game offset [] m k ps = end_at k ps
matches_at game offset (pair ∷ pairs) m k ps = do
  x ← next_match game offset pair m k ps
  rows ← matches_at game offset pairs (m + 1) (k + 2) x.1
  Ok (x.0 ∷ rows)

-- where the expected matches stand by the bytes of a checkpoint with this head, for a raised game and an offset; or the first fault
unfoldable pub checkpoint_of : List ℕ → List ExpectedMatch → Payoffs → ℕ → List ℕ → Result (List RotaRow) Fault
checkpoint_of head expected game offset bytes = do
  x ← behind_head (pieces head) 1 (pieces bytes)
  matches_at game offset expected 0 x.0 x.1
