-- What the report of a tournament must say.
use Rattle.std.specs.Prelude.{ℕ, ◌≡◌, ◌<◌, List, length, map, slice_index_or, Some}
use Rattle.std.specs.List.{AllZip}
use Rattle.player_core.specs.State.{BenchState, Lasting, players_of}
use Rattle.result_lines.specs.declared.line.MatchLine.{MatchLine}
use Rattle.round_robin.specs.Asked.{AreAsked, bench_turns}
use Rattle.sheet_rules.specs.Entrants.{Entrant, entrant_at, expects_at}
use Rattle.sheet_rules.specs.RightLine.{IsRightLine}
use Rattle.round_robin.specs.Contest.{entrant_strategies}
use Rattle.round_robin.specs.Entries.{IsRightEntry}
use Rattle.result_lines.specs.declared.tables.EntryLine.{EntryLine}
use Rattle.round_robin.specs.Truth.{true_totals}
use Rattle.report_rules.specs.declared.report.Body.TheVariants as bodies
use Rattle.report_rules.specs.declared.report.Report.{Report}
use Rattle.report_names.specs.Names.{name_at}
use Rattle.report_rules.specs.Text.{report_text}
use Rattle.report_rules.specs.Valid.{IsValid}
use Rattle.job_tables.specs.declared.tournament.TournamentJob.{TournamentJob}
use Rattle.lab_file.specs.Lab.{LabData, entry_at}
use Rattle.job_tables.specs.Tournament.{tournament_pairs}
use Rattle.lab_file.specs.Lab.{names_of}
use Rattle.play_commands.specs.Entrants.{IsEntrant}
use Rattle.play_commands.specs.RightLine.{IsOfLab}

-- the entries of the lab, in file order
pub record AreEntrants (lab : LabData) (entrants : List Entrant) : Type 0 where
  pub count : length entrants ≡ length lab.entries
  pub each : (place : ℕ) → place < length lab.entries → IsEntrant lab place (entrant_at entrants place)

-- the line of the match of a pair of places: it names the two entries, and is right
pub record IsRightPair (players : List Lasting) (lab : LabData) (entrants : List Entrant) (turns : ℕ) (names : List (List ℕ)) (line : MatchLine) (pair : ℕ × ℕ) : Type 0 where
  pub left_name : name_at names line.left ≡ (entry_at lab.entries pair.0).name
  pub right_name : name_at names line.right ≡ (entry_at lab.entries pair.1).name
  pub turns_are : line.turns ≡ turns
  pub score : IsRightLine players lab.game lab.offset (entrant_at entrants pair.0) (entrant_at entrants pair.1) line

-- the bytes are the text of a valid report of the lab's tournament: a right line for each pair that is played, in ascending order, and
-- a right line for each entry, in file order. That totals are sums of the spans above them, that ranks, wins and undecided matches are
-- by the verdicts of printed spans, is what makes the report valid
pub record IsRightTournament (players : List Lasting) (lab : LabData) (bytes : List ℕ) : Type 0 where
  pub job : TournamentJob
  pub job_is : lab.jobs.tournament_job ≡ Some job
  pub entrants : List Entrant
  pub entrants_are : AreEntrants lab entrants
  pub report : Report
  pub valid : IsValid report
  pub text : bytes ≡ report_text report
  pub of_lab : IsOfLab lab report
  pub matches : List MatchLine
  pub who : List ℕ
  pub entries : List EntryLine
  pub body : report.body ≡ bodies.Tournament matches who entries
  pub match_lines : AllZip (IsRightPair players lab entrants job.turns report.names) matches (tournament_pairs job (length lab.entries))
  pub entry_names : map (name_at report.names) who ≡ names_of lab.entries
  pub entry_lines : (place : ℕ) (none : EntryLine) → place < length lab.entries →
      IsRightEntry (true_totals (expects_at players lab.game lab.offset job.turns entrants) (tournament_pairs job (length lab.entries)) (length lab.entries))
      place (slice_index_or entries place none)

-- the players of the lab's tournament were asked, for each of its matches
pub record IsAskedTournament (before after : BenchState) (lab : LabData) : Type 0 where
  pub job : TournamentJob
  pub job_is : lab.jobs.tournament_job ≡ Some job
  pub entrants : List Entrant
  pub entrants_are : AreEntrants lab entrants
  pub asked : AreAsked (entrant_strategies (players_of before) entrants) job.turns (tournament_pairs job (length lab.entries))
      (bench_turns before) (bench_turns after)
