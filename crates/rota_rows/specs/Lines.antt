-- The two lines that show a match of a rota, each behind its first word, which is `row` or `score`.
use Rattle.std.specs.Prelude.{ℕ, ◌≡◌, ◌^◌, ◌<◌, ◌≤◌, ◌↔◌, Bool, true, nat_le, unsigned_abs, List, Option}
use Rattle.history_model.specs.declared.tally.Tally.{Tally}
use Rattle.history_model.specs.Name.{IsName}
use Rattle.history_model.specs.Tally.{total}
use Rattle.texts.specs.Forms.{Form, AreFields, ◌and◌, shaped, only}
use Rattle.rota_rows.specs.declared.lines.ShownRow.{ShownRow}
use Rattle.rota_rows.specs.declared.lines.ShownScores.{ShownScores}
use Rattle.rota_rows.specs.Fields.{a_name, a_count, a_mark, some_plays, a_score}

-- counts of at most 10^12 plays together
abbrev pub are_few : Tally → Bool
are_few tally = nat_le (total tally) (10 ^ 12)

-- how often each play came
abbrev pub tally_form : Form Tally
tally_form =
    only are_few
    (shaped (λ x. (x.cc, (x.cd, (x.dc, x.dd)))) (λ p. record { cc = p.0; cd = p.1.0; dc = p.1.1.0; dd = p.1.1.1 })
    (some_plays and some_plays and some_plays and some_plays))

-- where a match stands: its number, its two names, both marks in a form of marks, and its counts
abbrev pub row_form_with : Form ℕ → Form ShownRow
row_form_with mark =
    shaped (λ x. (x.number, (x.left, (x.right, (x.left_mark, (x.right_mark, x.tally))))))
    (λ p. record { number = p.0; left = p.1.0; right = p.1.1.0; left_mark = p.1.1.1.0; right_mark = p.1.1.1.1.0; tally = p.1.1.1.1.1 })
    (a_count and a_name and a_name and mark and mark and tally_form)

-- the same in a report
abbrev pub row_form : Form ShownRow
row_form = row_form_with a_mark

abbrev pub is_row : ShownRow → Bool
is_row x = row_form.is_in x

unfoldable pub row_of : List ℕ → Option ShownRow
row_of t = row_form.read t

-- the number of the match, and the scores of both sides so far
abbrev pub scores_form : Form ShownScores
scores_form = shaped (λ x. (x.number, (x.left, x.right))) (λ p. record { number = p.0; left = p.1.0; right = p.1.1 }) (a_count and a_score and a_score)

abbrev pub are_scores : ShownScores → Bool
are_scores x = scores_form.is_in x

unfoldable pub both_scores_of : List ℕ → Option ShownScores
both_scores_of t = scores_form.read t

-- ---- laws

-- a line that shows where a match stands
pub record IsRowLine (x : ShownRow) : Type 0 where
  pub number : x.number < 2 ^ 32
  pub left : IsName x.left
  pub right : IsName x.right
  pub left_mark : x.left_mark < 512
  pub right_mark : x.right_mark < 512
  pub few_turns : total x.tally ≤ 10 ^ 12

-- a line that shows what its two sides scored
pub record AreScoresLine (x : ShownScores) : Type 0 where
  pub number : x.number < 2 ^ 32
  pub left : unsigned_abs x.left ≤ 10 ^ 37
  pub right : unsigned_abs x.right ≤ 10 ^ 37

-- what is in range is read from its text, in which no LF stands
pub record RotaLinesAreExact : Type 0 where
  pub rows : AreFields row_form
  pub scores : AreFields scores_form
  pub row_range : (x : ShownRow) → (is_row x ≡ true) ↔ IsRowLine x
  pub scores_range : (x : ShownScores) → (are_scores x ≡ true) ↔ AreScoresLine x
