use Rattle.match_play.proofs.Playing.{going_more}
use Rattle.match_play.proofs.turn_by_turn.go_on.Goals as goal

pub loop-turn-preserved : goal.loop-turn-preserved
loop-turn-preserved g c =
    going_more _ _ _ _ _ _ _ _ _ _ _ c.loop-turn.invariant c.step-play.ensures.play c.step-play.ensures.left c.step-play.ensures.right c.count.ensures
