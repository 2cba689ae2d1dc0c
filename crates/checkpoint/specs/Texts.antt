-- The text of the rows of a rota.
use Rattle.std.specs.Prelude.{ℕ, ◌+◌, ◌*◌, ℤ, pos, ◌-ℤ◌, List, [], ◌∷◌, ◌++◌, codes}
use Rattle.history_model.specs.Game.{Payoffs}
use Rattle.history_model.specs.Tally.{total, left_points, right_points}
use Rattle.rota_rows.specs.declared.row.RotaRow.{RotaRow}
use Rattle.rota_rows.specs.declared.lines.ShownRow.{ShownRow}
use Rattle.rota_rows.specs.declared.lines.ShownScores.{ShownScores}
use Rattle.rota_rows.specs.Lines.{row_form, scores_form}
use Rattle.checkpoint.specs.declared.expected.ExpectedMatch.{ExpectedMatch}

-- where a match stands, with its number and its names
abbrev pub shown_row : ExpectedMatch → ℕ → RotaRow → ShownRow
shown_row pair number row = record {
  number = number;
  left = pair.left_name;
  right = pair.right_name;
  left_mark = row.left_mark;
  right_mark = row.right_mark;
  tally = row.tally;
}

-- the score of so many points of the raised game in so many turns, less the offset for each turn, in units of 10^-12
abbrev pub score_of : ℕ → ℕ → ℕ → ℤ
score_of offset turns points = pos (points * 1000000000000) -ℤ pos (offset * turns * 1000000000000)

-- what its two sides scored so far
abbrev pub shown_scores : Payoffs → ℕ → ℕ → RotaRow → ShownScores
shown_scores game offset number row = record {
  number = number;
  left = score_of offset (total row.tally) (left_points game row.tally);
  right = score_of offset (total row.tally) (right_points game row.tally);
}

-- the two lines of a match
abbrev pub row_line : ExpectedMatch → ℕ → RotaRow → List ℕ
row_line pair number row = codes "row|" ++ row_form.text (shown_row pair number row)

abbrev pub score_line : Payoffs → ℕ → ℕ → RotaRow → List ℕ
score_line game offset number row = codes "score|" ++ scores_form.text (shown_scores game offset number row)

-- the lines of all matches from a number on, and the end, each with its LF
abbrev pub rows_text : Payoffs → ℕ → ℕ → List ExpectedMatch → List RotaRow → List ℕ
rows_text game offset number (pair ∷ pairs) (row ∷ rows) =
    row_line pair number row ++ 10 ∷ (score_line game offset number row ++ 10 ∷ rows_text game offset (number + 1) pairs rows)
rows_text game offset number _ _ = codes "end" ++ 10 ∷ []
