use Rattle.play_commands.proofs.Contesting.{first_more}
use Rattle.play_commands.proofs.tournament.contestants.Goals as goal

pub loop-place-preserved : goal.loop-place-preserved
loop-place-preserved c = record {
  first = rw c.in_ok-push.ensures.items (first_more c.args.lab.now c.loop-place.place _ _ c.loop-place.invariant.first c.contestant.ensures);
  last = c.loop-place.invariant.last;
}
