-- Which line may follow which in the report of a drill: its number, a line for each machine of the first rank, the sum of all
-- totals, and then the end.
use Rattle.std.specs.Prelude.{ℕ, ℤ, ◌≡◌, ◌≤◌, Bool, true, false, nat_lt, List, [], ◌∷◌, ◌++◌, length}
use Rattle.report_lines.specs.declared.line.ShownFirst.{ShownFirst}
use Rattle.report_lines.specs.declared.line.Line.{Line}
use Rattle.report_lines.specs.declared.line.Line.TheVariants as lines
use Rattle.report_rules.specs.declared.report.Body.TheVariants as bodies
use Rattle.report_rules.specs.declared.state.DrillSoFar.{DrillSoFar}
use Rattle.report_rules.specs.declared.state.DrillSoFar.TheVariants as drills
use Rattle.report_rules.specs.declared.state.State.{State}
use Rattle.report_rules.specs.declared.state.State.TheVariants as states
use Rattle.report_names.specs.Names.{place_in, with_name}
use Rattle.report_rules.specs.Valid.{drill_head}

-- at most 64 machines, which stand between the number and the sum
abbrev pub drill_allows : DrillSoFar → Line → Bool
drill_allows drills.Begun (lines.Drill number) = true
drill_allows (drills.Numbered number first) (lines.First x) = nat_lt (length first) 64
drill_allows (drills.Numbered number first) (lines.Total sum) = true
drill_allows (drills.Summed number first sum) lines.End = true
drill_allows _ _ = false

-- the machines with one more, whose place is behind all others where its name is new
abbrev pub with_first : List (List ℕ) → List (ℕ × ℤ) → ShownFirst → List (ℕ × ℤ)
with_first names first x = first ++ (place_in names x.name, x.total) ∷ []

-- what a line behind those of a drill leaves
abbrev pub after_drill : List (List ℕ) → DrillSoFar → Line → State
after_drill names drills.Begun (lines.Drill number) = states.InDrill names (drills.Numbered number [])
after_drill names (drills.Numbered number first) (lines.First x) =
    states.InDrill (with_name names x.name) (drills.Numbered number (with_first names first x))
after_drill names (drills.Numbered number first) (lines.Total sum) = states.InDrill names (drills.Summed number first sum)
after_drill names (drills.Summed number first sum) lines.End =
    states.Ended drill_head [] names (bodies.Drill number first sum)
after_drill names drill _ = states.InDrill names drill

-- at most as many names so far as machines, of which there are few
abbrev pub HasDrillRoom : List (List ℕ) → DrillSoFar → Type 0
HasDrillRoom names drills.Begun = names ≡ []
HasDrillRoom names (drills.Numbered number first) = (length names ≤ length first) × (length first ≤ 64)
HasDrillRoom names (drills.Summed number first sum) = Unit {0}
