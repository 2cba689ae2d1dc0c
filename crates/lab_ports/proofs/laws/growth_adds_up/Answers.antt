use Rattle.lab_ports.proofs.Grown.{grew_more}
use Rattle.lab_ports.proofs.laws.growth_adds_up.Goals as goal

pub returns : goal.returns
returns c = grew_more
