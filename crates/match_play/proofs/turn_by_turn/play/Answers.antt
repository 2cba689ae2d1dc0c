use Rattle.match_play.proofs.Playing.{played_left, played_right}
use Rattle.match_play.proofs.turn_by_turn.play.Goals as goal

pub returns-clause-left : goal.returns-clause-left
returns-clause-left g c =
    let left = c.args.left.now in
    let right = c.args.right.now in
    played_left
    ((goal.Player-dyn g (left.vtable, left.value)).state left.value)
    ((goal.Player-dyn g (right.vtable, right.value)).state right.value)
    _ _ _ _ c.restart.ensures.state c.restart-2.ensures.state c.go_on.ensures.left

pub returns-clause-right : goal.returns-clause-right
returns-clause-right g c =
    let left = c.args.left.now in
    let right = c.args.right.now in
    played_right
    ((goal.Player-dyn g (left.vtable, left.value)).state left.value)
    ((goal.Player-dyn g (right.vtable, right.value)).state right.value)
    _ _ _ _ c.restart.ensures.state c.restart-2.ensures.state c.go_on.ensures.right
