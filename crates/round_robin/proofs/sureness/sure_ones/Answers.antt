use Rattle.std.proofs.Common.{arith}
use Rattle.round_robin.proofs.Contesting.{contestants_kept}
use Rattle.round_robin.proofs.Telling.{all_told, told_more}
use Rattle.round_robin.proofs.sureness.sure_ones.Goals as goal

pub is_sure_one-requires-clause-contestants : goal.is_sure_one-requires-clause-contestants
is_sure_one-requires-clause-contestants g c = contestants_kept _ _ c.loop-place.invariant.kept.left_kept c.args.contestants.now c.requires.contestants.each

pub loop-place-preserved : goal.loop-place-preserved
loop-place-preserved g c =
    told_more c.keeping_lasts.ensures c.entries_play.ensures _ _ _ _ _ _ _ _ c.requires.fits c.requires.contestants.few c.loop-place-test.true
    c.loop-place.invariant c.is_sure_one.ensures.value c.is_sure_one.ensures.kept c.is_sure_one.ensures.turns c.is_sure_one.ensures.returns

pub returns-clause-told : goal.returns-clause-told
returns-clause-told g c = all_told _ _ _ _ _ _ c.requires.contestants.few (omega arith) c.loop-place.invariant
