use Rattle.std.proofs.Common.{arith, length-set}
use Rattle.std.proofs.lemmas.List.{length-map}
use Rattle.player_core.specs.State.{at_start}
use Rattle.player_core.proofs.Growing.{none_fell_both, returns_grown}
use Rattle.player_core.proofs.Sides.{map_changed_more}
use Rattle.player_core.proofs.side.restart_all.Goals as goal

pub loop-k-preserved : goal.loop-k-preserved
loop-k-preserved g c = record {
  seen = map_changed_more _ at_start _ _ _ _ _ (simp length-map (omega arith)) c.loop-k.invariant.seen c.index_mut.ensures.value c.restart.ensures.state;
  end_is = c.loop-k.invariant.end_is;
  length_same = simp (length-map, length-set) (simp length-map at c.loop-k.invariant.length_same);
  fell = none_fell_both _ _ _ c.loop-k.invariant.fell (returns_grown _ _ _ _ _ c.index_mut.ensures.value c.restart.ensures.returns);
}
