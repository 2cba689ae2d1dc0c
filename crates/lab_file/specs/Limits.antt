-- Whether a lab has the job of a command, and the job keeps the limits; or the first refusal.
use Rattle.std.specs.Prelude.{ℕ, ◌≡◌, ◌*◌, ◌&&◌, nat_lt, Bool, true, false, List, length, sum_by, All, Option, Some, None, Result, Ok, Err, if◌then◌else◌}
use Rattle.std.specs.List.{list_any}
use Rattle.player_core.specs.declared.bench.PlugNote.{PlugNote}
use Rattle.refusals.specs.declared.refusal.Refusal.{Refusal}
use Rattle.refusals.specs.declared.refusal.Refusal.TheVariants.{NoJob, TooManyTurns, TooMuchWork, NotBuilt}
use Rattle.lab_file.specs.declared.command.Command.{Command}
use Rattle.lab_file.specs.declared.command.Command.TheVariants.{Match, Tournament}
use Rattle.lab_file.specs.declared.limits.Job.{Job}
use Rattle.lab_file.specs.declared.limits.Job.TheVariants as jobs
use Rattle.lab_file.specs.declared.lab.Entry.{Entry}
use Rattle.job_tables.specs.declared.jobs.MatchJob.{MatchJob}
use Rattle.job_tables.specs.declared.tournament.TournamentJob.{TournamentJob}
use Rattle.lab_file.specs.Lab.{LabData, entry_at}
use Rattle.lab_file.specs.Rows.{entry_rows}
use Rattle.lab_file.specs.Sure.{entry_is_sure}
use Rattle.job_tables.specs.Tournament.{tournament_pairs}

-- the most turns of a match that is sure, and of any other
abbrev pub most_turns : Bool → ℕ
most_turns true = 1000000000000
most_turns false = 10000

-- a match that isn't sure is computed over each pair of rows in each turn
abbrev pub work_of : Bool → ℕ → ℕ → ℕ → ℕ
work_of true left right turns = 0
work_of false left right turns = left * right * turns

abbrev pub most_work : ℕ
most_work = 30000000

-- the limits of a match between automata of so many rows
abbrev pub limits_by : Bool → ℕ → ℕ → ℕ → Result (Unit {0}) Refusal
limits_by sure left right turns =
    if nat_lt (most_turns sure) turns then Err TooManyTurns
    else if nat_lt most_work (work_of sure left right turns) then Err TooMuchWork
    else Ok tt

-- whether a pair of entries leaves nothing to chance
abbrev pub pair_is_sure : List PlugNote → List Entry → ℕ × ℕ → Bool
pair_is_sure notes entries pair = entry_is_sure notes (entry_at entries pair.0) && entry_is_sure notes (entry_at entries pair.1)

-- the limits of the match of a pair
abbrev pub pair_limits : List PlugNote → List Entry → ℕ → ℕ × ℕ → Result (Unit {0}) Refusal
pair_limits notes entries turns pair =
    limits_by (pair_is_sure notes entries pair) (entry_rows notes (entry_at entries pair.0)) (entry_rows notes (entry_at entries pair.1)) turns

abbrev pub match_limits : List PlugNote → List Entry → MatchJob → Result (Unit {0}) Refusal
match_limits notes entries job = pair_limits notes entries job.turns (job.left, job.right)

abbrev pub is_too_long : List PlugNote → List Entry → ℕ → ℕ × ℕ → Bool
is_too_long notes entries turns pair = nat_lt (most_turns (pair_is_sure notes entries pair)) turns

abbrev pub pair_work : List PlugNote → List Entry → ℕ → ℕ × ℕ → ℕ
pair_work notes entries turns pair =
    work_of (pair_is_sure notes entries pair) (entry_rows notes (entry_at entries pair.0)) (entry_rows notes (entry_at entries pair.1)) turns

-- the turns of each match, then the work of all together
abbrev pub tournament_limits : List PlugNote → List Entry → TournamentJob → Result (Unit {0}) Refusal
tournament_limits notes entries job =
    let pairs = tournament_pairs job (length entries) in
    if list_any (is_too_long notes entries job.turns) pairs then Err TooManyTurns
    else if nat_lt most_work (sum_by (pair_work notes entries job.turns) pairs) then Err TooMuchWork
    else Ok tt

-- the limits of a job that must be there
abbrev pub job_limits : {J : Type 0} → (J → Result (Unit {0}) Refusal) → Option J → Result (Unit {0}) Refusal
job_limits limits None = Err NoJob
job_limits limits (Some job) = limits job

-- by command: a new one adds one equation
abbrev pub limits_of : List PlugNote → Command → LabData → Result (Unit {0}) Refusal
limits_of notes Match lab = job_limits (match_limits notes lab.entries) lab.jobs.match_job
limits_of notes Tournament lab = job_limits (tournament_limits notes lab.entries) lab.jobs.tournament_job
limits_of notes _ lab = Err NotBuilt

-- the command of a job, and that the lab has it: a new job adds one equation each
abbrev pub command_of : Job → Command
command_of (jobs.Match job) = Match
command_of (jobs.Tournament job) = Tournament

abbrev pub HasJob : LabData → Job → Type 0
HasJob lab (jobs.Match job) = lab.jobs.match_job ≡ Some job.now
HasJob lab (jobs.Tournament job) = lab.jobs.tournament_job ≡ Some job.now

-- the lab's job of a command
pub record IsJobOf (command : Command) (lab : LabData) (job : Job) : Type 0 where
  pub asked : command_of job ≡ command
  pub has : HasJob lab job

-- the law of tournaments: where one keeps the limits, each of its matches does
abbrev pub MatchesAreKept : Type 0
MatchesAreKept = (notes : List PlugNote) (entries : List Entry) (job : TournamentJob) → tournament_limits notes entries job ≡ Ok tt
    → All (λ pair. pair_limits notes entries job.turns pair ≡ Ok tt) (tournament_pairs job (length entries))
