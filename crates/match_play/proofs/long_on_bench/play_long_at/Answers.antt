use Rattle.match_play.proofs.Places.{followed_at, others_stay}
use Rattle.match_play.proofs.long_on_bench.play_long_at.Goals as goal

pub returns-clause-followed : goal.returns-clause-followed
returns-clause-followed g c =
    followed_at _ _ _ _ _ _ _ _ _ _ _ c.requires.left c.requires.right c.index_mut.ensures.value c.index_mut-2.ensures.value c.play_long.ensures.followed

pub returns-clause-left_others : goal.returns-clause-left_others
returns-clause-left_others g c = others_stay _ _ _ _ c.requires.left

pub returns-clause-right_others : goal.returns-clause-right_others
returns-clause-right_others g c = others_stay _ _ _ _ c.requires.right
