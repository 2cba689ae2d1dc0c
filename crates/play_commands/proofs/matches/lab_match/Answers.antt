use Rattle.play_commands.proofs.Reports.{right_report}
use Rattle.play_commands.proofs.Sparing.{may_match}
use Rattle.play_commands.proofs.matches.lab_match.Goals as goal

pub returns-clause-right : goal.returns-clause-right
returns-clause-right g c =
    right_report _ _ c.requires.fits c.args.lab.now c.args.job.now c.in_ok-line.line c.line_report.result c.requires.job (rw c.requires.job at c.shape.ensures.jobs.match_job) c.shape.ensures.entries.differ
    c.in_ok-line.ensures.right c.line_report.ensures.report c.line_report.ensures.valid

pub returns-in_err-line-clause-most : goal.returns-in_err-line-clause-most
returns-in_err-line-clause-most g c = may_match _ _ c.args.lab.now c.args.job.now c.requires.job c.in_err-line.ensures.most

pub returns-clause-most : goal.returns-clause-most
returns-clause-most g c = may_match _ _ c.args.lab.now c.args.job.now c.requires.job c.in_ok-line.ensures.most
