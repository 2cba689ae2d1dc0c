-- What the report of a match must say.
use Rattle.std.specs.Prelude.{◌≡◌, ℕ, List, Some}
use Rattle.player_core.specs.State.{BenchState, Lasting}
use Rattle.result_lines.specs.declared.line.MatchLine.{MatchLine}
use Rattle.report_rules.specs.declared.report.Body.TheVariants as bodies
use Rattle.report_rules.specs.declared.report.Report.{Report}
use Rattle.report_names.specs.Names.{name_at}
use Rattle.report_rules.specs.Text.{report_text}
use Rattle.report_rules.specs.Valid.{IsValid}
use Rattle.job_tables.specs.declared.jobs.MatchJob.{MatchJob}
use Rattle.lab_file.specs.Lab.{LabData, entry_at}
use Rattle.play_commands.specs.RightLine.{IsOfLab, IsRightBetween, IsAskedBetween}

-- the bytes are the text of a valid report of the lab's match, whose line is right
pub record IsRightMatch (players : List Lasting) (lab : LabData) (bytes : List ℕ) : Type 0 where
  pub job : MatchJob
  pub job_is : lab.jobs.match_job ≡ Some job
  pub report : Report
  pub valid : IsValid report
  pub text : bytes ≡ report_text report
  pub of_lab : IsOfLab lab report
  pub line : MatchLine
  pub body : report.body ≡ bodies.Match line
  pub left_name : name_at report.names line.left ≡ (entry_at lab.entries job.left).name
  pub right_name : name_at report.names line.right ≡ (entry_at lab.entries job.right).name
  pub right : IsRightBetween players lab job.left job.right job.turns line

-- the players of the lab's match were asked
pub record IsAskedMatch (before after : BenchState) (lab : LabData) : Type 0 where
  pub job : MatchJob
  pub job_is : lab.jobs.match_job ≡ Some job
  pub asked : IsAskedBetween before after lab job.left job.right job.turns
