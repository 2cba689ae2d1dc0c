use Rattle.lab_file.proofs.Telling.{notes_tell}
use Rattle.lab_file.proofs.laws.notes_tell.Goals as goal

pub returns : goal.returns
returns c = notes_tell c.sure_is_tested.ensures
