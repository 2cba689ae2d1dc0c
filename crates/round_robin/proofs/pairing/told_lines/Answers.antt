use Rattle.std.proofs.Common.{arith}
use Rattle.round_robin.proofs.Contesting.{all_asked, all_at_most, contestants_kept, few_turns_kept, pair_told, played_more, stopped_at_most, told_kept}
use Rattle.round_robin.proofs.pairing.told_lines.Goals as goal

pub pair_line-requires-clause-few_turns : goal.pair_line-requires-clause-few_turns
pair_line-requires-clause-few_turns g c =
    few_turns_kept c.entries_play.ensures c.args.contestants.now c.args.turns c.loop-pair.pair-index c.args.pairs.now _ _ _ c.requires.fits
    c.loop-pair.invariant.left_kept c.loop-pair-test.true c.requires.few_turns

pub pair_line-requires-clause-contestants : goal.pair_line-requires-clause-contestants
pair_line-requires-clause-contestants g c = contestants_kept _ _ c.loop-pair.invariant.left_kept c.args.contestants.now c.requires.contestants

pub is_sure_pair-both_sure-requires : goal.is_sure_pair-both_sure-requires
is_sure_pair-both_sure-requires g c = pair_told _ _ c.args.contestants.now c.args.sure.now c.loop-pair.pair-index c.args.pairs.now c.requires.fits c.loop-pair-test.true c.requires.pairs c.requires.sure

pub pair_line-requires-clause-sure : goal.pair_line-requires-clause-sure
pair_line-requires-clause-sure g c =
    told_kept c.entries_play.ensures c.args.contestants.now _ c.args.sure.now c.loop-pair.pair-index c.args.pairs.now _ _ _ c.requires.fits
    c.loop-pair.invariant.left_kept c.loop-pair-test.true c.requires.pairs c.requires.sure c.is_sure_pair-both_sure.ensures

pub loop-pair-preserved : goal.loop-pair-preserved
loop-pair-preserved g c =
    played_more c.keeping_lasts.ensures c.entries_play.ensures _ _ _ _ _ _ _ _ _ _ _ _ _ _ c.requires.fits c.loop-pair-test.true
    c.in_ok-push.ensures.items c.loop-pair.invariant (record {
      left_kept = c.pair_line.ensures.kept.left_kept;
      right_kept = c.pair_line.ensures.kept.right_kept;
      line_is = c.in_ok-line.ensures.line;
      left_place = c.in_ok-line.ensures.left_place;
      right_place = c.in_ok-line.ensures.right_place;
      scores = c.in_ok-line.ensures.scores;
      asked = c.in_ok-line.ensures.asked;
      fell = c.in_ok-line.ensures.none_fell;
    })

pub returns-clause-asked : goal.returns-clause-asked
returns-clause-asked g c = all_asked _ _ _ _ _ _ _ _ _ _ (omega arith) c.loop-pair.invariant

pub returns-in_err-line-clause-most : goal.returns-in_err-line-clause-most
returns-in_err-line-clause-most g c =
    stopped_at_most c.entries_play.ensures _ _ _ _ _ _ _ _ _ _ _ _ c.requires.fits c.loop-pair-test.true c.loop-pair.invariant c.pair_line.ensures.most

pub returns-in_err-push-clause-most : goal.returns-in_err-push-clause-most
returns-in_err-push-clause-most g c =
    stopped_at_most c.entries_play.ensures _ _ _ _ _ _ _ _ _ _ _ _ c.requires.fits c.loop-pair-test.true c.loop-pair.invariant c.pair_line.ensures.most

pub returns-clause-most : goal.returns-clause-most
returns-clause-most g c = all_at_most _ _ _ _ _ _ _ _ _ _ (omega arith) c.loop-pair.invariant
