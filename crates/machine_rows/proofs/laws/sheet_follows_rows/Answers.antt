use Rattle.machine_rows.proofs.Follows.{follows_rows}
use Rattle.machine_rows.proofs.laws.sheet_follows_rows.Goals as goal

pub returns : goal.returns
returns c = follows_rows
