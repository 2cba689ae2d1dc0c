use Rattle.std.proofs.Common.{◌≡◌, [], ◌∷◌, ◌++◌}
use Rattle.best_turns.specs.Meeting.{met}
use Rattle.best_turns.proofs.Stances.{one_stance_more}
use Rattle.best_turns.proofs.meeting.stances_of.Goals as goal

pub loop-row-preserved : goal.loop-row-preserved
loop-row-preserved c =
    let e : c.push.new.self.items ≡ c.loop-row.all.items ++ c.stance_at.result ∷ [] = c.in_ok-push.ensures.items in
    rw e (one_stance_more (met c.args.meeting.now) c.loop-row.row c.loop-row.all.items c.stance_at.result c.loop-row.invariant c.stance_at.ensures)
