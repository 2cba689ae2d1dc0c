-- The report that is made of a tournament's lines is right.
use Rattle.std.proofs.Common.{◌≡◌, ℕ, ◌<◌, List, [], ◌∷◌, length, map, Some, Result, Ok, Err, IfOk, refl, ◌∙◌, ap, subst, arith}
use Rattle.std.specs.List.{All, AllZip}
use Rattle.std.proofs.lemmas.List.{get_or-map}
use Rattle.std.proofs.lemmas.List.Elements.{All-head, All-tail}
use Rattle.player_core.specs.State.{BenchState, Lasting}
use Rattle.player_core.specs.Fits.{SidesFit}
use Rattle.result_lines.specs.declared.line.MatchLine.{MatchLine}
use Rattle.result_lines.specs.declared.tables.Totals.{Totals}
use Rattle.result_lines.specs.Totals.{pairs_of}
use Rattle.report_lines.specs.declared.line.ShownMatch.{ShownMatch}
use Rattle.sheet_rules.specs.declared.contestant.Contestant.{Contestant}
use Rattle.sheet_rules.specs.Entrants.{Entrant, entrant_at, entrants_of, expects_at}
use Rattle.round_robin.specs.Truth.{true_totals}
use Rattle.round_robin.specs.Entries.{AreRightEntries, AreRightLines, EntriesAskedOn, IsRightAmong, totals_by_rule}
use Rattle.report_rules.specs.declared.report.Report.{Report}
use Rattle.report_names.specs.Names.{name_at}
use Rattle.report_rules.specs.Text.{report_text, shown_match}
use Rattle.report_rules.specs.Valid.{IsValid}
use Rattle.report_making.specs.Made.{ShowsNames, moved_match, moved_matches, names_in_order, places_in, tournament_report_of}
use Rattle.lab_file.specs.declared.lab.Entry.{Entry}
use Rattle.job_tables.specs.declared.tournament.TournamentJob.{TournamentJob}
use Rattle.lab_file.specs.Lab.{LabData, entry_at, no_entry}
use Rattle.job_tables.specs.Tournament.{tournament_pairs}
use Rattle.play_commands.specs.Contestants.{AreFirst, noises_of}
use Rattle.play_commands.specs.RightLine.{head_of_lab}
use Rattle.lab_file.specs.Lab.{names_of}
use Rattle.play_commands.specs.RightTournament.{AreEntrants, IsRightPair, IsRightTournament, IsAskedTournament}
use Rattle.play_commands.proofs.Contesting.{are_entrants}
use Rattle.play_commands.proofs.Noises.{table_noises}
use Rattle.play_commands.proofs.Reports.{placed}

name_there : (entries : List Entry) (place : ℕ) → place < length entries → name_at (names_of entries) place ≡ (entry_at entries place).name
name_there entries place inside = get_or-map (λ (entry : Entry). entry.name) entries place no_entry [] inside

same_left : (a b : ShownMatch) → a ≡ b → a.left ≡ b.left
same_left a b e = ap (λ (s : ShownMatch). s.left) e

same_right : (a b : ShownMatch) → a ≡ b → a.right ≡ b.right
same_right a b e = ap (λ (s : ShownMatch). s.right) e

pub first_same : {X : Type 0} (x y : X) (xs ys : List X) → x ∷ xs ≡ y ∷ ys → x ≡ y
first_same x y xs ys e = cc

pub rest_same : {X : Type 0} (x y : X) (xs ys : List X) → x ∷ xs ≡ y ∷ ys → xs ≡ ys
rest_same x y xs ys e = cc

-- the lines with their places in the report
lines_there : (players : List Lasting) (lab : LabData) (entrants : List Entrant) → AreEntrants lab entrants → (turns : ℕ) (order : List (List ℕ)) (lines : List MatchLine)
    → All (IsRightAmong players lab.game lab.offset turns entrants) lines
    → map (shown_match order) (moved_matches (names_of lab.entries) order lines) ≡ map (shown_match (names_of lab.entries)) lines
    → AllZip (IsRightPair players lab entrants turns order) (moved_matches (names_of lab.entries) order lines) (pairs_of lines)
lines_there players lab entrants of turns order [] are shows = tt
lines_there players lab entrants of turns order (line ∷ lines) are shows =
    let names = names_of lab.entries in
    let is = All-head (IsRightAmong players lab.game lab.offset turns entrants) line lines are in
    let shown = first_same (shown_match order (moved_match names order line)) (shown_match names line)
    (map (shown_match order) (moved_matches names order lines)) (map (shown_match names) lines) shows in (
      record {
        left_name = same_left _ _ shown ∙ name_there lab.entries line.left (omega (arith, is.pair.ordered, is.pair.inside, of.count));
        right_name = same_right _ _ shown ∙ name_there lab.entries line.right (omega (arith, is.pair.inside, of.count));
        turns_are = is.turns_are;
        score = placed players lab.game lab.offset (entrant_at entrants line.left) (entrant_at entrants line.right) line _ _ line.tally is.score;
      },
      lines_there players lab entrants of turns order lines (All-tail (IsRightAmong players lab.game lab.offset turns entrants) line lines are)
          (rest_same (shown_match order (moved_match names order line)) (shown_match names line)
          (map (shown_match order) (moved_matches names order lines)) (map (shown_match names) lines) shows),
    )

pub right_table : {E : Type 0} (players on_the_right : List Lasting) → SidesFit players on_the_right → (lab : LabData) (contestants : List Contestant) → AreFirst lab (length lab.entries) contestants
    → (job : TournamentJob) (results : Totals) (made_report : Result Report E) → lab.jobs.tournament_job ≡ Some job
    → AreRightLines players lab.game lab.offset job.turns (entrants_of contestants) (tournament_pairs job (length lab.entries)) results.matches
    → AreRightEntries (totals_by_rule players lab.game lab.offset job.turns (entrants_of contestants) (tournament_pairs job (length lab.entries))) (length lab.entries) results.entries
    → IfOk made_report (λ report. report ≡ tournament_report_of (head_of_lab lab) (names_of lab.entries) (noises_of lab.entries) results)
    → IfOk made_report IsValid → IfOk made_report (λ _. ShowsNames (names_of lab.entries) results)
    → IfOk made_report (λ report. IsRightTournament players lab (report_text report))
right_table players on_the_right fits lab contestants first job results (Ok report) job_is lines entries made_is valid shows =
    let names = names_of lab.entries in
    let entrants = entrants_of contestants in
    let of = are_entrants lab contestants first in
    let pairs = tournament_pairs job (length lab.entries) in
    let order = names_in_order names results.matches in
    let table = tournament_report_of (head_of_lab lab) names (noises_of lab.entries) results in
    let valid_so : IsValid table = rw made_is at valid in
    let T : List (ℕ × ℕ) → Type 0 = λ ps. AllZip (IsRightPair players lab entrants job.turns order) (moved_matches names order results.matches) ps in
    let R : ℕ → Type 0 = λ n. AreRightEntries (true_totals (expects_at players lab.game lab.offset job.turns entrants) pairs n) (length lab.entries) results.entries in
    let here : IsRightTournament players lab (report_text table) = record {
      job = job;
      job_is = job_is;
      entrants = entrants;
      entrants_are = of;
      report = table;
      valid = valid_so;
      text = refl;
      of_lab = record { version = refl; offset = refl; game = refl; noise = refl; noises = table_noises lab order };
      matches = moved_matches names order results.matches;
      who = places_in order names;
      entries = results.entries;
      body = refl;
      match_lines = subst T lines.places (lines_there players lab entrants of job.turns order results.matches lines.each shows.matches);
      entry_names = shows.entries;
      entry_lines = subst R of.count entries;
    } in rw made_is here
right_table players on_the_right fits lab contestants first job results (Err error) job_is lines entries made_is valid shows = tt

-- the players of a tournament of these contestants were asked
pub asked_table : {T E : Type 0} (before after : BenchState) (lab : LabData) (contestants : List Contestant) (job : TournamentJob) (made : Result T E)
    → lab.jobs.tournament_job ≡ Some job → AreEntrants lab (entrants_of contestants)
    → EntriesAskedOn before after (entrants_of contestants) job.turns (tournament_pairs job (length lab.entries)) → IfOk made (λ _. IsAskedTournament before after lab)
asked_table before after lab contestants job (Err error) job_is entrants asked = tt
asked_table before after lab contestants job (Ok value) job_is entrants asked = record {
  job = job;
  job_is = job_is;
  entrants = entrants_of contestants;
  entrants_are = entrants;
  asked = asked;
}
