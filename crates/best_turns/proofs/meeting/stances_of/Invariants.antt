use Rattle.best_turns.specs.Meeting.{met, AreStances}
use Rattle.best_turns.proofs.meeting.stances_of.Given as goal

abbrev pub invariant-loop-row : goal.invariant-loop-row
invariant-loop-row l = AreStances (met l.meeting) l.row l.all.items
