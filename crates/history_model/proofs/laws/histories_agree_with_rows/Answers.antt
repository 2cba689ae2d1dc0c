use Rattle.history_model.proofs.Rows.{histories_agree_with_rows_lem}
use Rattle.history_model.proofs.laws.histories_agree_with_rows.Goals as goal

pub returns : goal.returns
returns c = histories_agree_with_rows_lem
