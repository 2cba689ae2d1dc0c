-- Jobs of so many entries, which go by their places, counted from 0.
use Rattle.std.specs.Prelude.{ℕ, ◌≡◌, ◌≢◌, ◌<◌, ◌≤◌, ◌^◌, false, List, All, AllPairs, IfSome}
use Rattle.job_tables.specs.declared.jobs.Jobs.{Jobs}
use Rattle.job_tables.specs.declared.jobs.MatchJob.{MatchJob}
use Rattle.job_tables.specs.declared.tournament.Edge.{Edge}
use Rattle.job_tables.specs.declared.tournament.TournamentJob.{TournamentJob}
use Rattle.job_tables.specs.Tournament.{joins}

-- a match between two of so many entries, of 1 to 10^12 turns
pub record IsMatchJob (count : ℕ) (job : MatchJob) : Type 0 where
  pub left : job.left < count
  pub right : job.right < count
  pub some_turns : 1 ≤ job.turns
  pub few_turns : job.turns ≤ 10 ^ 12

-- edges between so many entries: none joins an entry with itself, or the two of an earlier one
pub record AreEdges (count : ℕ) (edges : List Edge) : Type 0 where
  pub left : All (λ (edge : Edge). edge.left < count) edges
  pub right : All (λ (edge : Edge). edge.right < count) edges
  pub apart : All (λ (edge : Edge). edge.left ≢ edge.right) edges
  pub differ : AllPairs (λ (edge later : Edge). joins later.left later.right edge ≡ false) edges

-- a tournament of so many entries, of 1 to 10^12 turns a match
pub record IsTournamentJob (count : ℕ) (job : TournamentJob) : Type 0 where
  pub some_turns : 1 ≤ job.turns
  pub few_turns : job.turns ≤ 10 ^ 12
  pub edges : IfSome job.edges (AreEdges count)

-- each job is one of so many entries
pub record AreJobs (count : ℕ) (jobs : Jobs) : Type 0 where
  pub match_job : IfSome jobs.match_job (IsMatchJob count)
  pub tournament_job : IfSome jobs.tournament_job (IsTournamentJob count)
