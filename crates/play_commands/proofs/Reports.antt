-- The report that is made of a right line is right.
use Rattle.std.proofs.Common.{◌≡◌, ℕ, List, length, bytes_eq, Option, Some, None, Result, Ok, Err, IfOk, if◌then◌else◌, refl, inl, inr, subst}
use Rattle.std.proofs.lemmas.Bool.{cases_Bool}
use Rattle.std.proofs.lemmas.Slice.Eq.{bytes_eq-Decides}
use Rattle.history_model.specs.declared.tally.Tally.{Tally}
use Rattle.history_model.specs.Game.{Payoffs}
use Rattle.player_core.specs.State.{Lasting}
use Rattle.player_core.specs.Fits.{SidesFit}
use Rattle.result_lines.specs.declared.line.MatchLine.{MatchLine}
use Rattle.report_rules.specs.declared.report.Report.{Report}
use Rattle.report_names.specs.Names.{name_at}
use Rattle.report_rules.specs.Text.{report_text}
use Rattle.report_rules.specs.Valid.{IsValid}
use Rattle.report_making.specs.Made.{names_of_pair, match_report_of}
use Rattle.job_tables.specs.declared.jobs.MatchJob.{MatchJob}
use Rattle.job_tables.specs.Jobs.{IsMatchJob}
use Rattle.lab_file.specs.Lab.{LabData, NamesDiffer, entry_at}
use Rattle.sheet_rules.specs.Entrants.{Entrant}
use Rattle.sheet_rules.specs.RightLine.{IsRightLine, IsRightScore}
use Rattle.play_commands.specs.Entrants.{IsEntrant}
use Rattle.play_commands.specs.RightMatch.{IsRightMatch}
use Rattle.play_commands.specs.RightLine.{IsRightBetween, head_of_lab}
use Rattle.play_commands.proofs.Noises.{pair_noises}

-- the places of two names in their report
left_shown : (left right : List ℕ) → name_at (names_of_pair left right) 0 ≡ left
left_shown left right = elim (cases_Bool (bytes_eq left right)) [ inl same ↦ rw same refl | inr other ↦ rw other refl ]

right_shown : (left right : List ℕ) → name_at (names_of_pair left right) (if bytes_eq left right then 0 else 1) ≡ right
right_shown left right = elim (cases_Bool (bytes_eq left right)) [
  | inl same ↦ rw same ((bytes_eq-Decides left right).0 same)
  | inr other ↦ rw other refl
]

-- where its names stand changes nothing of what a line says
pub placed : (players : List Lasting) (game : Payoffs) (offset : ℕ) (left right : Entrant) (line : MatchLine) (i j : ℕ) (tally : Option Tally)
    → IsRightScore players game offset left right line tally → IsRightScore players game offset left right (record line { left = i; right = j }) tally
placed players game offset left right line i j (Some tally) played = record {
  sure = played.sure;
  history = played.history;
  by_rules = played.by_rules;
  plays = played.plays;
  left_score = played.left_score;
  right_score = played.right_score;
}
placed players game offset left right line i j None mixed = record {
  unsure = mixed.unsure;
  left_holds = mixed.left_holds;
  right_holds = mixed.right_holds;
  left_width = mixed.left_width;
  right_width = mixed.right_width;
  left_tight = mixed.left_tight;
  right_tight = mixed.right_tight;
}

-- a line that is right between two entrants is right between the entries that they are
pub right_between : {E : Type 0} (players on_the_right : List Lasting) → SidesFit players on_the_right → (lab : LabData) (i j turns : ℕ) (left right : Entrant) (read : Payoffs) (offset : ℕ) (made : Result MatchLine E)
    → read ≡ lab.game → offset ≡ lab.offset → IsEntrant lab i left → IsEntrant lab j right → IfOk made (λ line. line.turns ≡ turns) → IfOk made (IsRightLine players read offset left right)
    → IfOk made (IsRightBetween players lab i j turns)
right_between players on_the_right fits lab i j turns left right read offset (Ok line) of_lab less left_is right_is turns_are right_is_line =
    let P : Payoffs → ℕ → Type 0 = λ g o. IsRightLine players g o left right line in
    record { left = left; right = right; left_is = left_is; right_is = right_is; turns_are = turns_are; score = subst (P lab.game) less (subst (λ g. P g offset) of_lab right_is_line) }
right_between players on_the_right fits lab i j turns left right read offset (Err error) of_lab less left_is right_is turns_are right_is_line = tt

pub right_report : {E : Type 0} (players on_the_right : List Lasting) → SidesFit players on_the_right → (lab : LabData) (job : MatchJob) (line : MatchLine) (made : Result Report E)
    → lab.jobs.match_job ≡ Some job → IsMatchJob (length lab.entries) job → NamesDiffer lab.entries → IsRightBetween players lab job.left job.right job.turns line
    → IfOk made (λ report. report ≡ match_report_of (head_of_lab lab) (entry_at lab.entries job.left).name (entry_at lab.entries job.right).name (entry_at lab.entries job.left).noise (entry_at lab.entries job.right).noise line)
    → IfOk made IsValid → IfOk made (λ report. IsRightMatch players lab (report_text report))
right_report players on_the_right fits lab job line (Ok report) is sound differ right made_is valid =
    let left = entry_at lab.entries job.left in
    let right_entry = entry_at lab.entries job.right in
    let j = if bytes_eq left.name right_entry.name then 0 else 1 in
    let made = match_report_of (head_of_lab lab) left.name right_entry.name left.noise right_entry.noise line in
    let valid_so : IsValid made = rw made_is at valid in
    let here : IsRightMatch players lab (report_text made) = record {
      job = job;
      job_is = is;
      report = made;
      valid = valid_so;
      text = refl;
      of_lab = record { version = refl; offset = refl; game = refl; noise = refl; noises = pair_noises lab differ job.left job.right sound.left sound.right };
      line = record line { left = 0; right = j };
      body = refl;
      left_name = left_shown left.name right_entry.name;
      right_name = right_shown left.name right_entry.name;
      right = record {
        left = right.left;
        right = right.right;
        left_is = right.left_is;
        right_is = right.right_is;
        turns_are = right.turns_are;
        score = placed players lab.game lab.offset right.left right.right line 0 j line.tally right.score;
      };
    } in rw made_is here
right_report players on_the_right fits lab job line (Err error) is sound differ right made_is valid = tt
