use Rattle.match_play.proofs.Playing.{next_total}
use Rattle.match_play.proofs.Cycles.{match_followed}
use Rattle.match_play.proofs.long.play_long.Goals as goal

pub returns-clause-total : goal.returns-clause-total
returns-clause-total g c =
    let left = c.restart.new.player in
    let right = c.restart-2.new.player in
    next_total
    ((goal.Player-dyn g (left.vtable, left.value)).state left.value)
    ((goal.Player-dyn g (right.vtable, right.value)).state right.value)
    _ _ c.follow.ensures.tally

pub returns-clause-followed : goal.returns-clause-followed
returns-clause-followed g c =
    let left = c.args.left.now in
    let right = c.args.right.now in
    match_followed
    ((goal.Player-dyn g (left.vtable, left.value)).state left.value)
    ((goal.Player-dyn g (right.vtable, right.value)).state right.value)
    _ _ _ _ _ c.restart.ensures.state c.restart-2.ensures.state c.follow.ensures.followed
