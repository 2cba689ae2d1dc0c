-- The lines of a report, and its text.
use Rattle.std.specs.Prelude.{ℕ, List, [], ◌∷◌, ◌++◌, map, Option, Some, None, ℤ}
use Rattle.history_model.specs.Game.{Payoffs}
use Rattle.history_model.specs.Noise.{FlipRate}
use Rattle.result_lines.specs.declared.line.MatchLine.{MatchLine}
use Rattle.result_lines.specs.declared.ranking.Rank.{Rank}
use Rattle.result_lines.specs.declared.ranking.Rank.TheVariants as ranks
use Rattle.result_lines.specs.declared.tables.EntryLine.{EntryLine}
use Rattle.report_lines.specs.declared.line.Kind.{Kind}
use Rattle.report_lines.specs.declared.line.Kind.TheVariants as kinds
use Rattle.report_lines.specs.declared.line.ShownMatch.{ShownMatch}
use Rattle.report_lines.specs.declared.line.ShownOwn.{ShownOwn}
use Rattle.report_lines.specs.declared.line.ShownEntry.{ShownEntry}
use Rattle.report_lines.specs.declared.line.ShownFirst.{ShownFirst}
use Rattle.report_lines.specs.declared.line.Line.{Line}
use Rattle.report_lines.specs.declared.line.Line.TheVariants as lines
use Rattle.report_lines.specs.Payoffs.{shown_game}
use Rattle.report_lines.specs.Texts.{line_text}
use Rattle.report_rules.specs.declared.report.Body.{Body}
use Rattle.report_rules.specs.declared.report.Body.TheVariants as bodies
use Rattle.report_rules.specs.declared.report.Report.{Report}
use Rattle.report_names.specs.Names.{name_at}

-- what the first line says of a body
abbrev pub kind_of : Body → Kind
kind_of (bodies.Match line) = kinds.Match
kind_of (bodies.Tournament matches who entries) = kinds.Tournament
kind_of (bodies.Drill number first sum) = kinds.Drill

-- a match with its names in place of places
abbrev pub shown_match : List (List ℕ) → MatchLine → ShownMatch
shown_match names line = record {
  left = name_at names line.left;
  right = name_at names line.right;
  turns = line.turns;
  left_score = line.left_score;
  right_score = line.right_score;
  tally = line.tally;
}

-- a rank as a line shows it
abbrev pub rank_shown : Rank → Option ℕ
rank_shown ranks.Undecided = None
rank_shown (ranks.At rank) = Some rank

-- the line of the entry at a place, with its name
abbrev pub shown_entry : List (List ℕ) → ℕ → EntryLine → ShownEntry
shown_entry names place entry = record {
  name = name_at names place;
  total = entry.total;
  rank = rank_shown entry.rank;
  wins = entry.wins;
  undecided = entry.undecided;
}

-- the lines of matches
abbrev pub match_lines : List (List ℕ) → List MatchLine → List Line
match_lines names matches = map (λ line. lines.Match (shown_match names line)) matches

-- what is made of two lists side by side, as far as both go
abbrev pub side_by_side : {A B : Type 0} → (A → B → Line) → List A → List B → List Line
side_by_side f (x ∷ xs) (y ∷ ys) = f x y ∷ side_by_side f xs ys
side_by_side f _ _ = []

-- the lines of entries, each of the entry at its place
abbrev pub entry_lines : List (List ℕ) → List ℕ → List EntryLine → List Line
entry_lines names who entries = side_by_side (λ place entry. lines.Entry (shown_entry names place entry)) who entries

-- the line of a machine of the first rank, with its name
abbrev pub shown_first : List (List ℕ) → ℕ × ℤ → ShownFirst
shown_first names line = record { name = name_at names line.0; total = line.1 }

-- the lines of machines of the first rank
abbrev pub first_lines : List (List ℕ) → List (ℕ × ℤ) → List Line
first_lines names first = map (λ line. lines.First (shown_first names line)) first

-- the lines of a drill behind the first
abbrev pub drill_lines : List (List ℕ) → ℕ → List (ℕ × ℤ) → ℤ → List Line
drill_lines names number first sum = lines.Drill number ∷ (first_lines names first ++ lines.Total sum ∷ [])

-- the lines of a body, with names in place of places
abbrev pub body_lines : List (List ℕ) → Body → List Line
body_lines names (bodies.Match line) = lines.Match (shown_match names line) ∷ []
body_lines names (bodies.Tournament matches who entries) = match_lines names matches ++ entry_lines names who entries
body_lines names (bodies.Drill number first sum) = drill_lines names number first sum

-- the noise of a name
abbrev pub shown_own : List ℕ → FlipRate → ShownOwn
shown_own name noise = record { name = name; noise = noise }

-- the lines of the noises that names have of their own
abbrev pub own_lines : List (List ℕ) → List FlipRate → List Line
own_lines names noises = side_by_side (λ name noise. lines.Own (shown_own name noise)) names noises

-- what is told of the lab behind the first line; a drill tells nothing
abbrev pub lab_lines : Kind → ℕ → Payoffs → FlipRate → List Line → List Line
lab_lines kinds.Match offset game noise own = lines.Game (shown_game offset game) ∷ lines.Noise noise ∷ own
lab_lines kinds.Tournament offset game noise own = lines.Game (shown_game offset game) ∷ lines.Noise noise ∷ own
lab_lines kinds.Drill offset game noise own = []

-- the first line
abbrev pub first_line : ℕ → Kind → Line
first_line version kind = lines.Head (record { version = version; kind = kind })

-- all lines of a report
abbrev pub lines_of : Report → List Line
lines_of report =
    first_line report.version (kind_of report.body)
    ∷ (lab_lines (kind_of report.body) report.offset report.game report.noise (own_lines report.names report.noises)
    ++ (body_lines report.names report.body ++ lines.End ∷ []))

-- each line with the LF that ends it
abbrev pub text_of_lines : List Line → List ℕ
text_of_lines [] = []
text_of_lines (line ∷ more) = line_text line ++ 10 ∷ text_of_lines more

-- the text of a report
abbrev pub report_text : Report → List ℕ
report_text report = text_of_lines (lines_of report)
