-- Reading a line: its fields are read as if it were one, and the line is kept where it is in range and has this very text.
use Rattle.std.specs.Prelude.{codes, ◌≡◌, ℕ, ◌&&◌, true, List, Option, Some, None, if◌then◌else◌}
use Rattle.std.specs.Str.{bytes_eq}
use Rattle.history_model.specs.declared.tally.Tally.{Tally}
use Rattle.texts.specs.Cuts.{lacks}
use Rattle.texts.specs.Numbers.{◌>>=◌, small}
use Rattle.fixed_span.specs.Span.{Ends}
use Rattle.report_lines.specs.declared.line.ShownMatch.{ShownMatch}
use Rattle.report_lines.specs.declared.line.Line.{Line}
use Rattle.report_lines.specs.declared.line.Line.TheVariants as lines
use Rattle.report_lines.specs.Texts.{line_text, is_line}
pub use Rattle.report_lines.specs.Fields.{field, rest, name_of}
unfoldable pub use Rattle.report_lines.specs.Fields.{score_of, count_of, rank_of, points_of, amount_of, payoff_of, kind_of, noise_of}
unfoldable pub use Rattle.report_lines.specs.HeadForms.{head_of, game_of, own_of}
unfoldable pub use Rattle.report_lines.specs.EntryForm.{entry_of}
unfoldable pub use Rattle.report_lines.specs.FirstForm.{first_of}

-- the counts, in what stands behind the numbers of moves C
unfoldable pub tally_of : List ℕ → Option Tally
tally_of t = do
  cc ← small (field t)
  cd ← small (field (rest t))
  dc ← small (field (rest (rest t)))
  dd ← small (field (rest (rest (rest t))))
  Some (record { cc = cc; cd = cd; dc = dc; dd = dd })

-- the counts where the match is sure, in what stands behind the winner
unfoldable pub counts_of : List ℕ → Option (Option Tally)
counts_of t = if bytes_eq (field t) (codes "sure") then (tally_of (rest (rest (rest t))) >>= λ tally. Some (Some tally)) else Some None

-- both scores, and the counts
unfoldable pub scores_of : List ℕ → Option (Ends × Ends × Option Tally)
scores_of t = do
  left ← score_of (field t)
  right ← score_of (field (rest t))
  counts ← counts_of (rest (rest (rest t)))
  Some (left, right, counts)

-- the match, in what stands behind `match`
unfoldable pub match_of : List ℕ → Option ShownMatch
match_of t = do
  left ← name_of (field t)
  right ← name_of (field (rest t))
  turns ← small (field (rest (rest t)))
  x ← scores_of (rest (rest (rest t)))
  Some (record { left = left; right = right; turns = turns; left_score = x.0; right_score = x.1; tally = x.2 })

-- the line of a drill by its first field, and what stands behind it
unfoldable pub drill_line : List ℕ → List ℕ → Option Line
drill_line word t =
    if bytes_eq word (codes "drill") then (small (field t) >>= λ number. Some (lines.Drill number)) else
    if bytes_eq word (codes "first") then (first_of t >>= λ x. Some (lines.First x)) else
    if bytes_eq word (codes "total") then (points_of (field t) >>= λ sum. Some (lines.Total sum)) else None

-- a line by its first field, and what stands behind it; what its other fields don't need isn't looked at
unfoldable pub fixed : List ℕ → List ℕ → Option Line
fixed word t =
    if bytes_eq word (codes "match") then (match_of t >>= λ m. Some (lines.Match m)) else
    if bytes_eq word (codes "entry") then (entry_of t >>= λ x. Some (lines.Entry x)) else
    if bytes_eq word (codes "axlab") then (head_of t >>= λ x. Some (lines.Head x)) else
    if bytes_eq word (codes "game") then (game_of t >>= λ game. Some (lines.Game game)) else
    if bytes_eq word (codes "noise") then (noise_of t >>= λ noise. Some (lines.Noise noise)) else
    if bytes_eq word (codes "own") then (own_of t >>= λ x. Some (lines.Own x)) else
    if bytes_eq word (codes "end") then Some lines.End else drill_line word t

-- a line by its first field
unfoldable pub guess : List ℕ → Option Line
guess t = fixed (field t) (rest t)

-- a line that is in range and has this text
abbrev pub if_text : List ℕ → Line → Option Line
if_text t line = if is_line line && bytes_eq (line_text line) t then Some line else None

-- the line in range whose text this is
unfoldable pub line_of : List ℕ → Option Line
line_of t = guess t >>= if_text t

-- the law: exactly the texts of lines in range are read, and none of them has an LF
pub record LinesAreExact : Type 0 where
  pub takes : (t : List ℕ) (line : Line) → line_of t ≡ Some line → (is_line line ≡ true) × (t ≡ line_text line)
  pub again : (line : Line) → is_line line ≡ true → line_of (line_text line) ≡ Some line
  pub one_line : (line : Line) → is_line line ≡ true → lacks 10 (line_text line) ≡ true
