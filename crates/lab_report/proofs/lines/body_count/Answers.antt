use Rattle.report_rules.specs.Valid.{head_of}
use Rattle.lab_report.proofs.Numbered.{table_counted}
use Rattle.lab_report.proofs.lines.body_count.Goals as goal

pub returns-in-Tournament : goal.returns-in-Tournament
returns-in-Tournament c =
    rw (c.as_slice.ensures, c.as_slice-in-Tournament.ensures)
    (table_counted c.args.report.now.names (head_of c.args.report.now) c.args.report.now.body c.in-Tournament.matches c.in-Tournament.who c.in-Tournament.entries c.in-Tournament.is c.requires)
