-- How often the work of a command may advance the players of each side.
use Rattle.std.specs.Prelude.{◌≡◌, ◌⊎◌, ℕ, List, length, Some}
use Rattle.player_core.specs.Bench.{SameTurns}
use Rattle.player_core.specs.Sheet.{SheetData}
use Rattle.player_core.specs.State.{BenchState, players_of}
use Rattle.round_robin.specs.Asked.{AtMostTurns, bench_turns, most_advances, most_for}
use Rattle.drill.specs.Drill.{drill_sheets}
use Rattle.job_tables.specs.declared.jobs.MatchJob.{MatchJob}
use Rattle.job_tables.specs.declared.tournament.TournamentJob.{TournamentJob}
use Rattle.lab_file.specs.Lab.{LabData}
use Rattle.job_tables.specs.Tournament.{tournament_pairs}
use Rattle.sheet_rules.specs.Entrants.{Entrant, automaton_of_entrant}
use Rattle.round_robin.specs.Contest.{entrant_strategies}
use Rattle.play_commands.specs.Entrants.{IsEntrant}
use Rattle.play_commands.specs.Machines.{drill_pairs, machine_strategies}
use Rattle.play_commands.specs.RightTournament.{AreEntrants}

-- for the match of two entries of a lab: two advances for each pair of rows, and four for each row of both
pub record MayAskBetween (before after : BenchState) (lab : LabData) (left_place right_place : ℕ) : Type 0 where
  pub left : Entrant
  pub right : Entrant
  pub left_is : IsEntrant lab left_place left
  pub right_is : IsEntrant lab right_place right
  pub most : AtMostTurns (most_advances (automaton_of_entrant (players_of before) left) (automaton_of_entrant (players_of before) right))
      (bench_turns before) (bench_turns after)

-- for the match of a lab
pub record MayAskMatch (before after : BenchState) (lab : LabData) : Type 0 where
  pub job : MatchJob
  pub job_is : lab.jobs.match_job ≡ Some job
  pub most : MayAskBetween before after lab job.left job.right

-- for the tournament of a lab: that of all its matches together
pub record MayAskTournament (before after : BenchState) (lab : LabData) : Type 0 where
  pub job : TournamentJob
  pub job_is : lab.jobs.tournament_job ≡ Some job
  pub entrants : List Entrant
  pub entrants_are : AreEntrants lab entrants
  pub most : AtMostTurns (most_for (entrant_strategies (players_of before) entrants) (tournament_pairs job (length lab.entries)))
      (bench_turns before) (bench_turns after)

-- nobody was advanced, or each side at most as often as this allows
abbrev pub UpTo : BenchState → BenchState → Type 0 → Type 0
UpTo before after allowed = SameTurns before after ⊎ allowed

-- for the drill of a number
abbrev pub MayAskDrill : BenchState → BenchState → ℕ → Type 0
MayAskDrill before after number =
    AtMostTurns (most_for (machine_strategies (players_of before) (drill_sheets number)) drill_pairs) (bench_turns before) (bench_turns after)

-- for matches between all machines of these sheets
abbrev pub MayAskMachines : BenchState → BenchState → List SheetData → Type 0
MayAskMachines before after sheets =
    UpTo before after (AtMostTurns (most_for (machine_strategies (players_of before) sheets) drill_pairs) (bench_turns before) (bench_turns after))
