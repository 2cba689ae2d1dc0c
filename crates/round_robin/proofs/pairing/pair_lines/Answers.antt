use Rattle.std.specs.List.{All}
use Rattle.std.proofs.lemmas.Result.{IfOk-weaker}
use Rattle.round_robin.specs.Contest.{AreFewTurns, AreTold}
use Rattle.round_robin.specs.Totals.{AreLines}
use Rattle.round_robin.proofs.Contesting.{bench_kept, contestants_kept}
use Rattle.round_robin.proofs.Telling.{asked_first, at_most_first, first, then}
use Rattle.round_robin.proofs.pairing.pair_lines.Goals as goal

pub told_lines-requires-clause-contestants : goal.told_lines-requires-clause-contestants
told_lines-requires-clause-contestants g c = contestants_kept _ _ c.sure_ones-sure.ensures.kept.left_kept c.args.contestants.now c.requires.contestants.each

pub told_lines-requires-clause-sure : goal.told_lines-requires-clause-sure
told_lines-requires-clause-sure g c =
    then c.entries_play.ensures _ _ c.sure_ones-sure.ensures.kept c.requires.fits c.args.contestants.now (λ ss. AreTold ss c.sure_ones-sure.result) c.sure_ones-sure.ensures.told

pub told_lines-requires-clause-few_turns : goal.told_lines-requires-clause-few_turns
told_lines-requires-clause-few_turns g c =
    then c.entries_play.ensures _ _ c.sure_ones-sure.ensures.kept c.requires.fits c.args.contestants.now (λ ss. All (AreFewTurns ss c.args.turns) c.args.pairs.now) c.requires.few_turns

pub returns-clause-lines : goal.returns-clause-lines
returns-clause-lines g c =
    IfOk-weaker c.told_lines.result _ _
    (λ lines are.
    first c.entries_play.ensures _ _ c.sure_ones-sure.ensures.kept c.requires.fits c.args.contestants.now
    (λ ss. AreLines ss c.args.game.now c.args.turns c.args.pairs.now lines.items) are)
    c.told_lines.ensures.lines

pub returns-clause-asked : goal.returns-clause-asked
returns-clause-asked g c =
    IfOk-weaker c.told_lines.result _ _
    (λ lines asked.
    asked_first c.entries_play.ensures _ _ _ c.args.contestants.now c.args.turns c.args.pairs.now c.sure_ones-sure.ensures.kept c.sure_ones-sure.ensures.turns c.requires.fits asked)
    c.told_lines.ensures.asked

pub returns-clause-most : goal.returns-clause-most
returns-clause-most g c =
    at_most_first c.entries_play.ensures _ _ _ c.args.contestants.now c.args.pairs.now c.sure_ones-sure.ensures.kept c.sure_ones-sure.ensures.turns c.requires.fits c.told_lines.ensures.most

pub returns-clause-kept : goal.returns-clause-kept
returns-clause-kept g c = bench_kept c.keeping_lasts.ensures _ _ _ c.sure_ones-sure.ensures.kept c.told_lines.ensures.kept
