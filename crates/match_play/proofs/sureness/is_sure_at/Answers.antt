use Rattle.match_play.proofs.Reading.{sure_at}
use Rattle.match_play.proofs.sureness.is_sure_at.Goals as goal

pub returns-clause-value : goal.returns-clause-value
returns-clause-value g c = sure_at c.sure_is_tested.ensures _ _ _ _ _ c.requires c.index_mut.ensures.value c.is_sure.ensures.sure
