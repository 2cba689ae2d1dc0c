-- The lines that led to a state, and what is so of it then.
use Rattle.std.proofs.Common.{◌≡◌, ℕ, ℤ, ◌^◌, ◌<◌, ◌≤◌, ◌==◌, true, false, List, [], ◌∷◌, ◌++◌, length, map, Some, None, refl}
use Rattle.std.specs.Prelude.{◌≢◌}
use Rattle.std.specs.List.{All, AllPairs, AllZip}
use Rattle.history_model.specs.Game.{IsGame}
use Rattle.history_model.specs.Name.{IsName}
use Rattle.history_model.specs.Noise.{FlipRate, IsFlipRate}
use Rattle.texts.specs.Grammar.{run}
use Rattle.result_lines.specs.declared.line.MatchLine.{MatchLine}
use Rattle.result_lines.specs.declared.tables.EntryLine.{EntryLine}
use Rattle.report_lines.specs.declared.line.Kind.{Kind}
use Rattle.report_lines.specs.declared.line.Kind.TheVariants as kinds
use Rattle.report_lines.specs.declared.line.Line.{Line}
use Rattle.report_lines.specs.declared.line.Line.TheVariants as lines
use Rattle.report_lines.specs.Payoffs.{IsOffset, shown_game}
use Rattle.report_lines.specs.Texts.{is_line}
use Rattle.report_names.specs.declared.own.OwnNoises.{OwnNoises}
use Rattle.report_names.proofs.Coming.{IsFront}
use Rattle.report_rules.specs.declared.report.Body.{Body}
use Rattle.report_rules.specs.declared.report.Body.TheVariants as bodies
use Rattle.report_rules.specs.declared.report.Head.{Head}
use Rattle.report_rules.specs.declared.state.BodySoFar.{BodySoFar}
use Rattle.report_rules.specs.declared.state.BodySoFar.TheVariants as parts
use Rattle.report_rules.specs.declared.state.DrillSoFar.{DrillSoFar}
use Rattle.report_rules.specs.declared.state.DrillSoFar.TheVariants as drills
use Rattle.report_rules.specs.declared.state.State.{State}
use Rattle.report_rules.specs.declared.state.State.TheVariants as states
use Rattle.report_rules.specs.declared.table.Table.{Table}
use Rattle.report_rules.specs.Grammar.{allows, after, grammar}
use Rattle.report_names.specs.Names.{name_at, with_names}
use Rattle.report_rules.specs.Text.{first_line, kind_of, shown_match, match_lines, entry_lines, first_lines, drill_lines, body_lines, lab_lines, own_lines}
use Rattle.report_rules.specs.Valid.{IsBody, IsFirstOf, IsFixed, IsHead, IsMatchOf, IsCountedIn, IsTotal, first_names, match_names, own_count, shown_names}

-- ---- what a body says

-- what a body says that is valid with these names
pub record IsSoundBody (head : Head) (names : List (List ℕ)) (body : Body) : Type 0 where
  pub are_names : All IsName names
  pub shown : names ≡ with_names [] (shown_names names body)
  pub holds : IsBody (length names) head body

abbrev pub table_of : List MatchLine → List ℕ → List EntryLine → Table
table_of matches who entries = record { matches = matches; who = who; entries = entries }

-- the lines of a tournament so far
pub record IsSoundTable (head : Head) (names : List (List ℕ)) (table : Table) : Type 0 where
  pub are_names : All IsName names
  pub shown : names ≡ with_names [] (match_names names table.matches ++ map (name_at names) table.who)
  pub few_matches : length table.matches ≤ 2080
  pub few_entries : length table.entries ≤ 64
  pub playable : All (IsMatchOf (length names) head) table.matches
  pub below : All (λ place. place < length names) table.who
  pub once : AllPairs (λ a b. a ≢ b) table.who
  pub counted : AllZip (IsCountedIn table.matches) table.who table.entries

-- the machines of a drill so far
pub record IsSoundFirst (names : List (List ℕ)) (first : List (ℕ × ℤ)) : Type 0 where
  pub are_names : All IsName names
  pub shown : names ≡ with_names [] (first_names names first)
  pub few : length first ≤ 64
  pub machines : All (IsFirstOf (length names)) first

-- ---- a state that was led to

abbrev pub part_kind : BodySoFar → Kind
part_kind (parts.Match line) = kinds.Match
part_kind (parts.Tournament table) = kinds.Tournament

abbrev pub part_lines : List (List ℕ) → BodySoFar → List Line
part_lines names (parts.Match None) = []
part_lines names (parts.Match (Some line)) = lines.Match (shown_match names line) ∷ []
part_lines names (parts.Tournament table) = match_lines names table.matches ++ entry_lines names table.who table.entries

abbrev pub IsSoundPart : Head → List (List ℕ) → BodySoFar → Type 0
IsSoundPart head names (parts.Match None) = names ≡ []
IsSoundPart head names (parts.Match (Some line)) = IsSoundBody head names (bodies.Match line)
IsSoundPart head names (parts.Tournament table) = IsSoundTable head names table

-- no line of a body yet
pub record IsNew (body : BodySoFar) : Type 0 where
  pub none : part_lines [] body ≡ []
  pub sound : (head : Head) → IsSoundPart head [] body

-- what the head tells is in range
pub record IsSoundHead (head : Head) : Type 0 where
  pub told : IsHead head
  pub game : IsGame head.game
  pub noise : IsFlipRate head.noise

-- the noises of single names so far, and the names that were shown: none in version 1, and in version 2 these come in their order
pub record IsSoundOwn (version : ℕ) (own : OwnNoises) (names : List (List ℕ)) : Type 0 where
  pub are_noises : All IsFlipRate own.noises
  pub as_many : length own.noises ≡ length own.names
  pub first : (version == 1) ≡ true → own.noises ≡ []
  pub front : (version == 1) ≡ false → IsFront own.names names

-- the noises of all names of a report
pub record AreOwn (version : ℕ) (noises : List FlipRate) (names : List (List ℕ)) : Type 0 where
  pub are_noises : All IsFlipRate noises
  pub count : length noises ≡ own_count version (length names)

abbrev pub drill_so_far : List (List ℕ) → DrillSoFar → List Line
drill_so_far names drills.Begun = []
drill_so_far names (drills.Numbered number first) = lines.Drill number ∷ first_lines names first
drill_so_far names (drills.Summed number first sum) = drill_lines names number first sum

abbrev pub IsSoundDrill : List (List ℕ) → DrillSoFar → Type 0
IsSoundDrill names drills.Begun = names ≡ []
IsSoundDrill names (drills.Numbered number first) = (number < 2 ^ 64) × IsSoundFirst names first
IsSoundDrill names (drills.Summed number first sum) = (number < 2 ^ 64) × IsSoundFirst names first × IsTotal sum

abbrev pub so_far : State → List Line
so_far states.Start = []
so_far (states.AfterHead version body) = first_line version (part_kind body) ∷ []
so_far (states.AfterGame version offset game body) = first_line version (part_kind body) ∷ lines.Game (shown_game offset game) ∷ []
so_far (states.InBody head own names body) =
    first_line head.version (part_kind body) ∷ lines.Game (shown_game head.offset head.game) ∷ lines.Noise head.noise
    ∷ (own_lines own.names own.noises ++ part_lines names body)
so_far (states.InDrill names drill) = first_line 1 kinds.Drill ∷ drill_so_far names drill
so_far (states.Ended head noises names body) =
    first_line head.version (kind_of body)
    ∷ (lab_lines (kind_of body) head.offset head.game head.noise (own_lines names noises) ++ (body_lines names body ++ lines.End ∷ []))

-- a version that the first line shows
pub record IsVersion (version : ℕ) : Type 0 where
  pub some : 1 ≤ version
  pub known : version ≤ 2

abbrev pub IsSound : State → Type 0
IsSound states.Start = Unit {0}
IsSound (states.AfterHead version body) = IsVersion version × IsNew body
IsSound (states.AfterGame version offset game body) = IsVersion version × (version ≡ 1 → offset ≡ 0) × IsOffset game offset × IsGame game × IsNew body
IsSound (states.InBody head own names body) = IsSoundHead head × IsSoundOwn head.version own names × IsSoundPart head names body
IsSound (states.InDrill names drill) = IsSoundDrill names drill
IsSound (states.Ended head noises names body) = IsSoundHead head × AreOwn head.version noises names × IsSoundBody head names body × IsFixed head body

-- a line behind those that led to a state leaves a sound one, to which they led together
abbrev pub Adds : State → Line → Type 0
Adds s i = IsSound (after s i) × (so_far (after s i) ≡ so_far s ++ i ∷ [])

-- the same of a body alone, whose names are then these
abbrev pub PartAdds : Head → List (List ℕ) → BodySoFar → Line → List (List ℕ) → BodySoFar → Type 0
PartAdds head names body i more next = IsSoundPart head more next × (part_lines more next ≡ part_lines names body ++ i ∷ [])

-- the whole body, behind its last line
abbrev pub PartEnds : Head → List (List ℕ) → BodySoFar → Body → Type 0
PartEnds head names body whole = IsSoundBody head names whole × (body_lines names whole ≡ part_lines names body)

no_true : false ≡ true → ⊥
no_true e = absurd cc

pub no_case : {A : Type 0} → false ≡ true → A
no_case e = absurd (no_true e)

-- ---- one line of a run

pub one_line : (s : State) (i : Line) (is : List Line) → is_line i ≡ true → allows s i ≡ true → run grammar s (i ∷ is) ≡ run grammar (after s i) is
one_line s i is h e = rw (h, e) refl
