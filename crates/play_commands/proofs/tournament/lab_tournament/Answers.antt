use Rattle.play_commands.proofs.Contesting.{are_entrants}
use Rattle.play_commands.proofs.Tables.{right_table, asked_table}
use Rattle.play_commands.proofs.Sparing.{may_tournament, nobody}
use Rattle.play_commands.proofs.tournament.lab_tournament.Goals as goal

pub returns-clause-right : goal.returns-clause-right
returns-clause-right g c =
    right_table _ _ c.requires.fits c.args.lab.now c.deref.result.now (rw c.deref.ensures.value c.in_ok-contestants.ensures)
    c.args.job.now c.in_ok-results.results c.table_report.result c.requires.job c.in_ok-results.ensures.lines c.in_ok-results.ensures.entries
    c.table_report.ensures.report c.table_report.ensures.valid c.table_report.ensures.shows

pub returns-clause-asked : goal.returns-clause-asked
returns-clause-asked g c =
    asked_table _ _ c.args.lab.now c.deref.result.now c.args.job.now c.table_report.result c.requires.job
    (are_entrants c.args.lab.now c.deref.result.now (rw c.deref.ensures.value c.in_ok-contestants.ensures))
    c.in_ok-results.ensures.asked

pub returns-in_err-contestants-clause-most : goal.returns-in_err-contestants-clause-most
returns-in_err-contestants-clause-most g c = nobody _ _

pub returns-in_err-results-clause-most : goal.returns-in_err-results-clause-most
returns-in_err-results-clause-most g c =
    may_tournament _ _ c.args.lab.now c.deref.result.now c.args.job.now c.requires.job
    (are_entrants c.args.lab.now c.deref.result.now (rw c.deref.ensures.value c.in_ok-contestants.ensures)) c.in_err-results.ensures.most

pub returns-clause-most : goal.returns-clause-most
returns-clause-most g c =
    may_tournament _ _ c.args.lab.now c.deref.result.now c.args.job.now c.requires.job
    (are_entrants c.args.lab.now c.deref.result.now (rw c.deref.ensures.value c.in_ok-contestants.ensures)) c.in_ok-results.ensures.most
