use Rattle.play_commands.proofs.TableLines.{head_shown}
use Rattle.play_commands.proofs.matches.line_report.Goals as goal

pub match_report-requires-clause-head : goal.match_report-requires-clause-head
match_report-requires-clause-head c = rw c.head-head.ensures.head (head_shown c.args.lab.now c.shape.ensures)
