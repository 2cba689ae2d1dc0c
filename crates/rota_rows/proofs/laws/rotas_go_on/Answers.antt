use Rattle.rota_rows.proofs.GoingOn.{rotas_go_on_lem}
use Rattle.rota_rows.proofs.laws.rotas_go_on.Goals as goal

pub returns : goal.returns
returns c = rotas_go_on_lem
