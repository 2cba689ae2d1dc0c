-- Valid reports, fact by fact.
use Rattle.std.specs.List.{AllPairs, AllZip, list_any}
use Rattle.std.specs.Prelude.{ℕ, ℤ, ◌≡◌, ◌≢◌, ◌==◌, true, ◌*◌, ◌^◌, ◌<◌, ◌≤◌, pos, ◌≤ℤ◌, All, List, [], ◌∷◌, ◌++◌, length, map, IfSome, neg_ℤ, if◌then◌else◌}
use Rattle.history_model.specs.declared.tally.Tally.{Tally}
use Rattle.history_model.specs.Game.{Payoffs, IsGame}
use Rattle.history_model.specs.Name.{IsName}
use Rattle.history_model.specs.Noise.{IsFlipRate, no_noise}
use Rattle.history_model.specs.Tally.{total, left_points, right_points}
use Rattle.fixed_span.specs.Lowered.{lowered}
use Rattle.fixed_span.specs.Span.{Ends, point, score_units}
use Rattle.report_lines.specs.Payoffs.{IsOffset}
use Rattle.result_lines.specs.declared.line.MatchLine.{MatchLine}
use Rattle.result_lines.specs.declared.tables.EntryLine.{EntryLine}
use Rattle.result_lines.specs.Ranks.{ranks_of}
use Rattle.result_lines.specs.Totals.{total_of, wins_of, undecided_of}
use Rattle.report_rules.specs.declared.report.Body.{Body}
use Rattle.report_rules.specs.declared.report.Body.TheVariants as bodies
use Rattle.report_rules.specs.declared.report.Head.{Head}
use Rattle.report_rules.specs.declared.report.Report.{Report}
use Rattle.report_names.specs.Names.{name_at, with_names}
use Rattle.report_rules.specs.Text.{report_text}

-- ---- what a report tells of its lab

-- there are two versions, of which the first has no offset
pub record IsHead (head : Head) : Type 0 where
  pub some : 1 ≤ head.version
  pub known : head.version ≤ 2
  pub first : head.version ≡ 1 → head.offset ≡ 0
  pub raised : IsOffset head.game head.offset

-- what the parts of a report tell of its lab
abbrev pub head_of : Report → Head
head_of report = record { version = report.version; offset = report.offset; game = report.game; noise = report.noise }

-- ---- what it tells of matches

-- how far below 0 scores are shown: not at all in version 1
abbrev pub lowest : ℕ → ℕ → ℤ
lowest version units = if version == 1 then pos 0 else neg_ℤ (pos units)

-- a score is shown up to 10^33 units
pub record IsScore (version : ℕ) (score : Ends) : Type 0 where
  pub low : lowest version (10 ^ 33) ≤ℤ score.lo
  pub ordered : score.lo ≤ℤ score.hi
  pub high : score.hi ≤ℤ pos (10 ^ 33)

-- the score of so many points of the raised game, less the offset for each turn
abbrev pub paid : ℕ → ℕ → ℕ → Ends
paid offset turns points = lowered (offset * turns * score_units) (point (pos (points * score_units)))

-- counts make up the turns of a match, and its scores are what they are paid
pub record IsCounted (head : Head) (line : MatchLine) (tally : Tally) : Type 0 where
  pub turns : total tally ≡ line.turns
  pub left : line.left_score ≡ paid head.offset line.turns (left_points head.game tally)
  pub right : line.right_score ≡ paid head.offset line.turns (right_points head.game tally)

-- what a report can show of a match, apart from the places of its entries
pub record IsShowable (head : Head) (line : MatchLine) : Type 0 where
  pub some_turns : 1 ≤ line.turns
  pub few_turns : line.turns ≤ 10 ^ 12
  pub left : IsScore head.version line.left_score
  pub right : IsScore head.version line.right_score
  pub counts : IfSome line.tally (IsCounted head line)

-- a match of two of so many entries
pub record IsMatchOf (count : ℕ) (head : Head) (line : MatchLine) : Type 0 where
  pub left : line.left < count
  pub right : line.right < count
  pub showable : IsShowable head line

-- ---- what it tells of tournaments and drills

-- what is told of the entry at a place is what its matches give: the sum of its own scores, and how many matches with
-- others it won, or left undecided
pub record IsCountedIn (matches : List MatchLine) (place : ℕ) (entry : EntryLine) : Type 0 where
  pub total : entry.total ≡ total_of place matches
  pub wins : entry.wins ≡ wins_of place matches
  pub undecided : entry.undecided ≡ undecided_of place matches

-- each place below a count once
pub record IsOnceEach (count : ℕ) (who : List ℕ) : Type 0 where
  pub below : All (λ place. place < count) who
  pub all : (place : ℕ) → place < count → list_any (λ other. other == place) who ≡ true
  pub once : AllPairs (λ a b. a ≢ b) who

-- matches of so many entries, and what they give each of these, whose ranks are those by all totals
pub record IsTable (count : ℕ) (head : Head) (matches : List MatchLine) (who : List ℕ) (entries : List EntryLine) : Type 0 where
  pub few_matches : length matches ≤ 2080
  pub some_entries : 1 ≤ length entries
  pub few_entries : length entries ≤ 64
  pub playable : All (IsMatchOf count head) matches
  pub each_once : IsOnceEach count who
  pub counted : AllZip (IsCountedIn matches) who entries
  pub ranked : map (λ entry. entry.rank) entries ≡ ranks_of (map (λ entry. entry.total) entries)

-- a score of many matches is shown from 0 to 10^37 units
pub record IsTotal (units : ℤ) : Type 0 where
  pub low : pos 0 ≤ℤ units
  pub high : units ≤ℤ pos (10 ^ 37)

-- one of so many machines, and its total
pub record IsFirstOf (count : ℕ) (line : ℕ × ℤ) : Type 0 where
  pub inside : line.0 < count
  pub total : IsTotal line.1

-- the first of 64 machines, and the sum of all totals
pub record IsDrill (count : ℕ) (number : ℕ) (first : List (ℕ × ℤ)) (sum : ℤ) : Type 0 where
  pub number_fits : number < 2 ^ 64
  pub few : length first ≤ 64
  pub machines : All (IsFirstOf count) first
  pub sum_is : IsTotal sum

-- a body with places among so many names
abbrev pub IsBody : ℕ → Head → Body → Type 0
IsBody count head (bodies.Match line) = IsMatchOf count head line
IsBody count head (bodies.Tournament matches who entries) = IsTable count head matches who entries
IsBody count head (bodies.Drill number first sum) = IsDrill count number first sum

-- the game of every drill
abbrev pub drill_game : Payoffs
drill_game = record { r = 3; s = 0; t = 5; p = 1 }

-- what every drill tells of its lab
abbrev pub drill_head : Head
drill_head = record { version = 1; offset = 0; game = drill_game; noise = no_noise }

-- it is always the same, and its text shows only the version
abbrev pub IsFixed : Head → Body → Type 0
IsFixed head (bodies.Match line) = Unit {0}
IsFixed head (bodies.Tournament matches who entries) = Unit {0}
IsFixed head (bodies.Drill number first sum) = head ≡ drill_head

-- the names that the lines of matches show, in their order
abbrev pub match_names : List (List ℕ) → List MatchLine → List (List ℕ)
match_names names [] = []
match_names names (line ∷ more) = name_at names line.left ∷ name_at names line.right ∷ match_names names more

-- the names that the lines of machines show, in their order
abbrev pub first_names : List (List ℕ) → List (ℕ × ℤ) → List (List ℕ)
first_names names first = map (λ line. name_at names line.0) first

-- the names that the lines of a body show, in their order
abbrev pub shown_names : List (List ℕ) → Body → List (List ℕ)
shown_names names (bodies.Match line) = name_at names line.left ∷ name_at names line.right ∷ []
shown_names names (bodies.Tournament matches who entries) = match_names names matches ++ map (name_at names) who
shown_names names (bodies.Drill number first sum) = first_names names first

-- how many noises a report with so many names has: none in version 1, and in version 2 one of each name
abbrev pub own_count : ℕ → ℕ → ℕ
own_count version names = if version == 1 then 0 else names

-- a report: its parts are in range, and its names are those that it shows, each once, in order of first appearance
pub record IsValid (report : Report) : Type 0 where
  pub head : IsHead (head_of report)
  pub game : IsGame report.game
  pub noise : IsFlipRate report.noise
  pub own : length report.noises ≡ own_count report.version (length report.names)
  pub are_noises : All IsFlipRate report.noises
  pub fixed : IsFixed (head_of report) report.body
  pub are_names : All IsName report.names
  pub shown : report.names ≡ with_names [] (shown_names report.names report.body)
  pub body : IsBody (length report.names) (head_of report) report.body

-- the law: one text is the text of one valid report
abbrev pub OneReportAText : Type 0
OneReportAText = (a b : Report) → IsValid a → IsValid b → report_text a ≡ report_text b → a ≡ b
