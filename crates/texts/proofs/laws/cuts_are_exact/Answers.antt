use Rattle.texts.proofs.CutLaws.{before_at, behind_at, before_all, behind_all, lacks_append}
use Rattle.texts.proofs.laws.cuts_are_exact.Goals as goal

pub returns : goal.returns
returns c = record { before_it = before_at; behind_it = behind_at; before_none = before_all; behind_none = behind_all; together = lacks_append }
