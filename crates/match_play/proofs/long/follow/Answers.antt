use Rattle.std.proofs.Common.{arith}
use Rattle.match_play.proofs.Cycles.{found, cycle_found, gone_by_cycle, counted_by_cycle, following_more}
use Rattle.match_play.proofs.long.follow.Goals as goal

pub overflow_cast-long : goal.overflow_cast-long
overflow_cast-long g c =
    let f = found _ _ _ _ _ _ _ _ _ _ _ c.requires.left_valid c.requires.right_valid c.loop-turn.invariant c.requires.room c.place_of_pair-place.ensures.place c.place_of_pair-place.ensures.within c.if-mark-ne0.true in
    let turn_is = f.turn_is in
    let parts = f.parts in
    omega arith

pub overflow_sub-long : goal.overflow_sub-long
overflow_sub-long g c =
    let f = found _ _ _ _ _ _ _ _ _ _ _ c.requires.left_valid c.requires.right_valid c.loop-turn.invariant c.requires.room c.place_of_pair-place.ensures.place c.place_of_pair-place.ensures.within c.if-mark-ne0.true in
    let turn_is = f.turn_is in
    let parts = f.parts in
    omega arith

pub since-once-requires : goal.since-once-requires
since-once-requires g c =
    (found _ _ _ _ _ _ _ _ _ _ _ c.requires.left_valid c.requires.right_valid c.loop-turn.invariant c.requires.room c.place_of_pair-place.ensures.place c.place_of_pair-place.ensures.within c.if-mark-ne0.true).is_since

pub by_cycle-requires-clause-cycle : goal.by_cycle-requires-clause-cycle
by_cycle-requires-clause-cycle g c =
    cycle_found _ _ _ _ _ _ _ _ _
    (found _ _ _ _ _ _ _ _ _ _ _ c.requires.left_valid c.requires.right_valid c.loop-turn.invariant c.requires.room c.place_of_pair-place.ensures.place c.place_of_pair-place.ensures.within c.if-mark-ne0.true)
    c.since-once.ensures

pub returns-then-mark-ne0-clause-tally : goal.returns-then-mark-ne0-clause-tally
returns-then-mark-ne0-clause-tally g c =
    counted_by_cycle _ _ _ _ _ _ _ _ c.loop-turn.invariant.going c.loop-turn-test.true c.by_cycle.ensures.tally

pub returns-then-mark-ne0-clause-followed : goal.returns-then-mark-ne0-clause-followed
returns-then-mark-ne0-clause-followed g c =
    gone_by_cycle _ _ _ _ _ _ _ _ _ _ _ _ _ _ c.loop-turn.invariant
    (found _ _ _ _ _ _ _ _ _ _ _ c.requires.left_valid c.requires.right_valid c.loop-turn.invariant c.requires.room c.place_of_pair-place.ensures.place c.place_of_pair-place.ensures.within c.if-mark-ne0.true)
    c.loop-turn-test.true c.requires.room c.by_cycle.ensures.left c.by_cycle.ensures.right

pub loop-turn-preserved : goal.loop-turn-preserved
loop-turn-preserved g c =
    following_more _ _ _ _ _ _ _ _ _ _ _ _ _ _ _ c.step-play.result c.loop-turn.invariant c.requires.room c.place_of_pair-place.ensures.place c.place_of_pair-place.ensures.within c.if-mark-ne0.false
    (record { turn_is = c.new.ensures.turn; cc = c.new.ensures.cc; cd = c.new.ensures.cd; dc = c.new.ensures.dc })
    (record { play_is = c.step-play.ensures.play; left_is = c.step-play.ensures.left; right_is = c.step-play.ensures.right; tally_is = c.count.ensures })
