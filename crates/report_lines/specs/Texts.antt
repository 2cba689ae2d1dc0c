-- The lines of reports and their texts, without the LF that ends each. A line is fields joined by `|`.
use Rattle.std.specs.Prelude.{codes, ℕ, ◌+◌, ◌^◌, ◌&&◌, ◌==◌, Bool, true, nat_lt, nat_le, ℤ, List, ◌++◌, Option, Some, None}
use Rattle.std.specs.Fmt.{decimal}
use Rattle.history_model.specs.declared.tally.Tally.{Tally}
use Rattle.history_model.specs.Name.{is_name}
use Rattle.history_model.specs.Tally.{total}
use Rattle.fixed_span.specs.Span.{Ends}
use Rattle.fixed_span.specs.Verdict.{verdict}
use Rattle.fixed_span.specs.declared.ordering.Verdict.{Verdict}
use Rattle.fixed_span.specs.declared.ordering.Verdict.TheVariants as verdicts
use Rattle.report_lines.specs.declared.line.ShownMatch.{ShownMatch}
use Rattle.report_lines.specs.declared.line.Line.{Line}
use Rattle.report_lines.specs.declared.line.Line.TheVariants as lines
pub use Rattle.report_lines.specs.Fields.{kind_word, noise_text, dilemma_word, score_text, rank_text, points_text, is_noise, is_score, is_total, is_count, is_rank, are_points}
pub use Rattle.report_lines.specs.HeadForms.{head_form, is_head, game_form, is_game, is_dilemma, own_form, is_own}
pub use Rattle.report_lines.specs.EntryForm.{entry_form, is_entry}
pub use Rattle.report_lines.specs.FirstForm.{first_form, is_first}

-- who played, and how long
abbrev pub players_text : List ℕ → List ℕ → ℕ → List ℕ
players_text left right turns =
    codes "match|" ++ (left ++ (codes "|" ++ (right ++ (codes "|" ++ (decimal turns ++ codes "|")))))

-- who scored more, as far as two spans tell
abbrev pub winner_word : Verdict → List ℕ
winner_word verdicts.Greater = codes "left"
winner_word verdicts.Less = codes "right"
winner_word verdicts.Level = codes "level"
winner_word verdicts.Undecided = codes "undecided"

-- both scores, and the winner
abbrev pub scores_text : Ends → Ends → List ℕ
scores_text left right =
    score_text left ++ (codes "|" ++ (score_text right ++ (codes "|" ++ (winner_word (verdict left right) ++ codes "|"))))

-- how often each cooperated and how often each play came; or that the match isn't sure
abbrev pub counts_text : Option Tally → List ℕ
counts_text None = codes "mixed"
counts_text (Some tally) =
    codes "sure|" ++ (decimal (tally.cc + tally.cd) ++ (codes "|" ++ (decimal (tally.cc + tally.dc) ++ (codes "|" ++ (decimal tally.cc
    ++ (codes "|" ++ (decimal tally.cd ++ (codes "|" ++ (decimal tally.dc ++ (codes "|" ++ decimal tally.dd))))))))))

-- a match: its players and turns, scores and counts
abbrev pub match_text : ShownMatch → List ℕ
match_text m = players_text m.left m.right m.turns ++ (scores_text m.left_score m.right_score ++ counts_text m.tally)

-- the number of a drill, its 64 machines, and the turns of each match
abbrev pub drill_text : ℕ → List ℕ
drill_text number = codes "drill|" ++ (decimal number ++ codes "|64|1000000000")

-- the sum of all totals
abbrev pub total_text : ℤ → List ℕ
total_text sum = codes "total|" ++ points_text sum

-- each kind of line
abbrev pub line_text : Line → List ℕ
line_text (lines.Head x) = codes "axlab|" ++ head_form.text x
line_text (lines.Game game) = codes "game|" ++ game_form.text game
line_text (lines.Noise noise) = codes "noise|" ++ noise_text noise
line_text (lines.Own x) = codes "own|" ++ own_form.text x
line_text (lines.Match m) = match_text m
line_text (lines.Entry x) = codes "entry|" ++ entry_form.text x
line_text (lines.Drill number) = drill_text number
line_text (lines.First x) = codes "first|" ++ first_form.text x
line_text (lines.Total sum) = total_text sum
line_text lines.End = codes "end"

-- ---- the ranges of what a line shows

-- from 1 to 10^12
abbrev pub is_turns : ℕ → Bool
is_turns turns = nat_le 1 turns && nat_le turns (10 ^ 12)

-- the counts are of so many turns
abbrev pub counts_are : ℕ → Option Tally → Bool
counts_are turns None = true
counts_are turns (Some tally) = total tally == turns

-- all that a match shows is in range
abbrev pub is_match : ShownMatch → Bool
is_match m =
    (is_name m.left && is_name m.right) && ((is_turns m.turns && is_score m.left_score) && (is_score m.right_score && counts_are m.turns m.tally))

-- a number below 2^64
abbrev pub is_number : ℕ → Bool
is_number n = nat_lt n (2 ^ 64)

-- each kind of line
abbrev pub is_line : Line → Bool
is_line (lines.Head x) = is_head x
is_line (lines.Game game) = is_game game
is_line (lines.Noise noise) = is_noise noise
is_line (lines.Own x) = is_own x
is_line (lines.Match m) = is_match m
is_line (lines.Entry x) = is_entry x
is_line (lines.Drill number) = is_number number
is_line (lines.First x) = is_first x
is_line (lines.Total sum) = are_points sum
is_line lines.End = true
