use Rattle.std.proofs.Common.{◌∙◌}
use Rattle.play_commands.proofs.Contesting.{names_differ}
use Rattle.play_commands.proofs.TableLines.{head_shown}
use Rattle.play_commands.proofs.tournament.table_report.Goals as goal

pub tournament_report-requires-clause-different : goal.tournament_report-requires-clause-different
tournament_report-requires-clause-different c = names_differ c.args.lab.now.entries c.deref.result.now (c.deref.ensures.value ∙ c.in_ok-names.ensures) c.shape.ensures.entries.differ

pub tournament_report-requires-clause-head : goal.tournament_report-requires-clause-head
tournament_report-requires-clause-head c = rw c.head-head.ensures.head (head_shown c.args.lab.now c.shape.ensures)
