-- How often the work of a command advances players, whatever it answers.
use Rattle.std.proofs.Common.{◌≡◌, ℕ, List, length, Some, refl, inl, inr, subst}
use Rattle.player_core.specs.Sheet.{SheetData}
use Rattle.player_core.specs.State.{BenchState, players_of}
use Rattle.sheet_rules.specs.declared.contestant.Contestant.{Contestant}
use Rattle.sheet_rules.specs.Entrants.{Entrant, entrants_of}
use Rattle.round_robin.specs.Asked.{AtMostTurns, bench_turns, most_for}
use Rattle.round_robin.specs.Entries.{EntriesAtMostOn}
use Rattle.drill.specs.Drill.{drill_sheets}
use Rattle.job_tables.specs.declared.jobs.MatchJob.{MatchJob}
use Rattle.job_tables.specs.declared.tournament.TournamentJob.{TournamentJob}
use Rattle.lab_file.specs.Lab.{LabData}
use Rattle.job_tables.specs.Tournament.{tournament_pairs}
use Rattle.play_commands.specs.Machines.{drill_pairs, machine_strategies}
use Rattle.play_commands.specs.MayAsk.{MayAskBetween, MayAskDrill, MayAskMatch, MayAskTournament, UpTo}
use Rattle.play_commands.specs.RightTournament.{AreEntrants}

pub nobody : (bench : BenchState) (allowed : Type 0) → UpTo bench bench allowed
nobody bench allowed = inl (record { left = refl; right = refl })

pub may_match : (before after : BenchState) (lab : LabData) (job : MatchJob) → lab.jobs.match_job ≡ Some job
    → UpTo before after (MayAskBetween before after lab job.left job.right) → UpTo before after (MayAskMatch before after lab)
may_match before after lab job is (inl same) = inl same
may_match before after lab job is (inr may) = inr (record { job = job; job_is = is; most = may })

pub may_tournament : (before after : BenchState) (lab : LabData) (contestants : List Contestant) (job : TournamentJob) → lab.jobs.tournament_job ≡ Some job
    → AreEntrants lab (entrants_of contestants) → UpTo before after (EntriesAtMostOn before after (entrants_of contestants) (tournament_pairs job (length lab.entries)))
    → UpTo before after (MayAskTournament before after lab)
may_tournament before after lab contestants job is entrants (inl same) = inl same
may_tournament before after lab contestants job is entrants (inr may) = inr (record {
  job = job;
  job_is = is;
  entrants = entrants_of contestants;
  entrants_are = entrants;
  most = may;
})

pub may_pairs : (before after : BenchState) (entrants : List Entrant) (pairs others : List (ℕ × ℕ)) → pairs ≡ others
    → EntriesAtMostOn before after entrants pairs → EntriesAtMostOn before after entrants others
may_pairs before after entrants pairs others same may =
    let P : List (ℕ × ℕ) → Type 0 = λ ps. EntriesAtMostOn before after entrants ps in subst P same may

pub may_drill : (before after : BenchState) (number : ℕ) (sheets : List SheetData) → sheets ≡ drill_sheets number
    → UpTo before after (AtMostTurns (most_for (machine_strategies (players_of before) sheets) drill_pairs) (bench_turns before) (bench_turns after))
    → UpTo before after (MayAskDrill before after number)
may_drill before after number sheets drawn may =
    let P : List SheetData → Type 0 =
    λ ss. UpTo before after (AtMostTurns (most_for (machine_strategies (players_of before) ss) drill_pairs) (bench_turns before) (bench_turns after)) in
    subst P drawn may
