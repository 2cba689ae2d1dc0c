-- Which line may follow which.
use Rattle.std.specs.Prelude.{ℕ, ◌≡◌, ◌≤◌, ◌==◌, ◌&&◌, ◌||◌, Bool, true, false, not, List, [], ◌∷◌, ◌++◌, length, Option, Some, None}
use Rattle.texts.specs.Grammar.{Grammar}
use Rattle.report_lines.specs.declared.line.Kind.{Kind}
use Rattle.report_lines.specs.declared.line.Kind.TheVariants as kinds
use Rattle.report_lines.specs.declared.line.Line.{Line}
use Rattle.report_lines.specs.declared.line.Line.TheVariants as lines
use Rattle.report_lines.specs.declared.line.ShownGame.{ShownGame}
use Rattle.report_lines.specs.declared.line.ShownOwn.{ShownOwn}
use Rattle.report_lines.specs.Payoffs.{offset_of, raised_game, are_near}
use Rattle.report_lines.specs.Texts.{line_text, is_line}
use Rattle.report_names.specs.declared.own.OwnNoises.{OwnNoises}
use Rattle.report_names.specs.Names.{both_come, comes, is_among}
use Rattle.report_rules.specs.declared.report.Head.{Head}
use Rattle.report_rules.specs.declared.state.BodySoFar.{BodySoFar}
use Rattle.report_rules.specs.declared.state.BodySoFar.TheVariants as parts
use Rattle.report_rules.specs.declared.state.DrillSoFar.TheVariants as drills
use Rattle.report_rules.specs.declared.state.State.{State}
use Rattle.report_rules.specs.declared.state.State.TheVariants as states
use Rattle.report_rules.specs.DrillRules.{drill_allows, after_drill, HasDrillRoom}
use Rattle.report_rules.specs.MatchRules.{match_allows, after_match}
use Rattle.report_rules.specs.Room.{HasTableRoom}
use Rattle.report_rules.specs.TableRules.{table_allows, after_table}

-- ---- what the head tells of the lab

-- payoffs that may be shown in a version: in the first none is below 0
abbrev pub is_game_of : ℕ → ShownGame → Bool
is_game_of version x = (not (version == 1) || offset_of x == 0) && are_near x

-- ---- noises of single names

-- a line of a noise: in version 2, before all lines that show names, and none was told of this name
abbrev pub own_allows : ℕ → List (List ℕ) → List (List ℕ) → ShownOwn → Bool
own_allows version owners names x = (not (version == 1) && length names == 0) && not (is_among x.name owners)

-- no noises yet, and the noises with one more
abbrev pub no_own : OwnNoises
no_own = record { names = []; noises = [] }

abbrev pub with_own : OwnNoises → ShownOwn → OwnNoises
with_own own x = record { names = own.names ++ x.name ∷ []; noises = own.noises ++ x.noise ∷ [] }

-- names are shown in the order of their noises, and behind the last line all were shown
abbrev pub in_order : List (List ℕ) → List (List ℕ) → Line → Bool
in_order owners names (lines.Match m) = both_come owners names m.left m.right
in_order owners names (lines.Entry x) = comes owners names x.name
in_order owners names lines.End = length names == length owners
in_order owners names _ = true

-- in version 1 names come in any order
abbrev pub follows : ℕ → List (List ℕ) → List (List ℕ) → Line → Bool
follows version owners names i = version == 1 || in_order owners names i

-- ---- the lines of a body, by what the report is of

-- whether a line may follow those of a body
abbrev pub body_allows : Head → List (List ℕ) → BodySoFar → Line → Bool
body_allows head names (parts.Match line) i = match_allows head line i
body_allows head names (parts.Tournament table) i = table_allows head names table i

-- what a line behind those of a body leaves
abbrev pub after_body : Head → OwnNoises → List (List ℕ) → BodySoFar → Line → State
after_body head own names (parts.Match line) i = after_match head own names line i
after_body head own names (parts.Tournament table) i = after_table head own names table i

-- so few names so far that those of one more line have places, and sums stay small
abbrev pub HasRoom : BodySoFar → List (List ℕ) → Type 0
HasRoom (parts.Match None) names = names ≡ []
HasRoom (parts.Match (Some line)) names = Unit {0}
HasRoom (parts.Tournament table) names = HasTableRoom names table

-- the noise of a name, where that is what a line shows
abbrev pub own_of : Line → Option ShownOwn
own_of (lines.Own x) = Some x
own_of _ = None

-- whether a line may follow those of a head, of noises of single names, and of a body
abbrev pub inner_allows : Head → OwnNoises → List (List ℕ) → BodySoFar → Line → Option ShownOwn → Bool
inner_allows head own names body i (Some x) = own_allows head.version own.names names x
inner_allows head own names body i None = body_allows head names body i && follows head.version own.names names i

-- what it leaves then
abbrev pub after_inner : Head → OwnNoises → List (List ℕ) → BodySoFar → Line → Option ShownOwn → State
after_inner head own names body i (Some x) = states.InBody head (with_own own x) names body
after_inner head own names body i None = after_body head own names body i

-- ---- reports: the first line, the game and the noises of a lab, the body's lines and the end

-- what the first line leaves: a drill shows no game and no noise
abbrev pub after_head : ℕ → Kind → State
after_head version kinds.Match = states.AfterHead version (parts.Match None)
after_head version kinds.Tournament = states.AfterHead version (parts.Tournament (record { matches = []; who = []; entries = [] }))
after_head version kinds.Drill = states.InDrill [] drills.Begun

-- whether a line may stand behind those that led to a state
abbrev pub allows : State → Line → Bool
allows states.Start (lines.Head x) = true
allows (states.AfterHead version body) (lines.Game x) = is_game_of version x
allows (states.AfterGame version offset game body) (lines.Noise noise) = true
allows (states.InBody head own names body) i = inner_allows head own names body i (own_of i)
allows (states.InDrill names drill) i = drill_allows drill i
allows _ _ = false

-- what it leaves then
abbrev pub after : State → Line → State
after states.Start (lines.Head x) = after_head x.version x.kind
after (states.AfterHead version body) (lines.Game x) = states.AfterGame version (offset_of x) (raised_game x) body
after (states.AfterGame version offset game body) (lines.Noise noise) =
    states.InBody (record { version = version; offset = offset; game = game; noise = noise }) no_own [] body
after (states.InBody head own names body) i = after_inner head own names body i (own_of i)
after (states.InDrill names drill) i = after_drill names drill i
after state _ = state

-- behind the last line
abbrev pub is_ended : State → Bool
is_ended (states.Ended head noises names body) = true
is_ended _ = false

-- the names so far of a state leave room for those of one more line, and an offset is small
abbrev pub StateHasRoom : State → Type 0
StateHasRoom (states.AfterHead version body) = HasRoom body []
StateHasRoom (states.AfterGame version offset game body) = (offset ≤ 1000000) × HasRoom body []
StateHasRoom (states.InBody head own names body) = (head.offset ≤ 1000000) × HasRoom body names
StateHasRoom (states.InDrill names drill) = HasDrillRoom names drill
StateHasRoom _ = Unit {0}

-- the lines of reports, each with what may come before it
abbrev pub grammar : Grammar State Line
grammar = record { text = line_text; is_line = is_line; allows = allows; after = after; is_ended = is_ended }
