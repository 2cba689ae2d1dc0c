-- What the report of a drill must say: who is first among machines that are drawn from a number.
use Rattle.std.specs.Prelude.{ℕ, ◌≡◌, List, map, slice_index_or, ℤ}
use Rattle.std.specs.List.{AllZip}
use Rattle.player_core.specs.State.{BenchState, Lasting, players_of}
use Rattle.fixed_span.specs.Span.{Fraction}
use Rattle.round_robin.specs.Asked.{AreAsked, bench_turns}
use Rattle.round_robin.specs.Truth.{nothing}
use Rattle.report_rules.specs.declared.report.Body.TheVariants as bodies
use Rattle.report_rules.specs.declared.report.Report.{Report}
use Rattle.report_names.specs.Names.{name_at}
use Rattle.report_rules.specs.Text.{report_text}
use Rattle.report_rules.specs.Valid.{IsValid}
use Rattle.drill.specs.Drill.{drill_name, drill_sheets}
use Rattle.play_commands.specs.Machines.{IsWhole, drill_job, drill_pairs, first_places, machine_strategies, machine_totals, sum_of}

-- the true totals of the machines of a number
abbrev pub drill_totals : List Lasting → ℕ → List Fraction
drill_totals players number = machine_totals players (drill_sheets number)

-- the bytes are the text of a valid report of the number's drill: the machines whose true rank is the first, in order, each with its
-- true total, and the sum of the true totals of all machines
pub record IsRightDrill (players : List Lasting) (number : ℕ) (bytes : List ℕ) : Type 0 where
  pub report : Report
  pub valid : IsValid report
  pub text : bytes ≡ report_text report
  pub first : List (ℕ × ℤ)
  pub sum : ℤ
  pub body : report.body ≡ bodies.Drill number first sum
  pub names : map (λ line. name_at report.names line.0) first ≡ map drill_name (first_places (drill_totals players number))
  pub totals : AllZip (λ line place. IsWhole line.1 (slice_index_or (drill_totals players number) place nothing)) first (first_places (drill_totals players number))
  pub all : IsWhole sum (sum_of (drill_totals players number))

-- the players were asked for each match of the drill
abbrev pub IsAskedDrill : BenchState → BenchState → ℕ → Type 0
IsAskedDrill before after number =
    AreAsked (machine_strategies (players_of before) (drill_sheets number)) drill_job.turns drill_pairs (bench_turns before) (bench_turns after)
