use Rattle.round_robin.proofs.Contesting.{bench_kept}
use Rattle.round_robin.proofs.Entering.{asked_before, is_raised, made_in_range, made_right, most_before, right_line, short_turns}
use Rattle.sheet_rules.specs.Entrants.{entrant_of}
use Rattle.round_robin.proofs.entries.entry_line.Goals as goal

pub lowered-requires-clause-raised : goal.lowered-requires-clause-raised
lowered-requires-clause-raised g c = is_raised c.args.turns c.in_ok-line.line c.in_ok-line.ensures.turns (short_turns _ _ _ c.requires.few_turns) c.in_ok-line.ensures.range

pub returns-clause-right : goal.returns-clause-right
returns-clause-right g c =
    made_right c.entries_play.ensures _ _ c.are_sure-sure.ensures.kept c.requires.fits c.args.game.now c.args.offset (entrant_of c.args.left.now) (entrant_of c.args.right.now)
    c.in_ok-line.line c.lowered.result c.lowered.ensures.line
    (right_line c.entries_play.ensures _ _ c.are_sure-sure.ensures.kept c.requires.fits c.entries_are_true.ensures (entrant_of c.args.left.now) (entrant_of c.args.right.now)
    c.args.game.now c.args.offset c.args.turns c.in_ok-line.line c.requires.left c.requires.right c.in_ok-line.ensures.turns c.in_ok-line.ensures.sides c.in_ok-line.ensures.line)

pub returns-clause-range : goal.returns-clause-range
returns-clause-range g c = made_in_range c.args.offset c.args.turns c.in_ok-line.line c.lowered.result c.lowered.ensures.line c.in_ok-line.ensures.turns c.in_ok-line.ensures.range

pub returns-clause-asked : goal.returns-clause-asked
returns-clause-asked g c =
    asked_before c.entries_play.ensures _ _ c.are_sure-sure.ensures.kept c.requires.fits c.are_sure-sure.ensures.turns _ (entrant_of c.args.left.now) (entrant_of c.args.right.now)
    c.args.turns c.in_ok-line.ensures.asked

pub returns-in_err-line-clause-most : goal.returns-in_err-line-clause-most
returns-in_err-line-clause-most g c =
    most_before c.entries_play.ensures _ _ c.are_sure-sure.ensures.kept c.requires.fits c.are_sure-sure.ensures.turns _ (entrant_of c.args.left.now) (entrant_of c.args.right.now)
    c.in_err-line.ensures.most

pub returns-clause-most : goal.returns-clause-most
returns-clause-most g c =
    most_before c.entries_play.ensures _ _ c.are_sure-sure.ensures.kept c.requires.fits c.are_sure-sure.ensures.turns _ (entrant_of c.args.left.now) (entrant_of c.args.right.now)
    c.in_ok-line.ensures.most

pub returns-in_err-line-clause-kept : goal.returns-in_err-line-clause-kept
returns-in_err-line-clause-kept g c = bench_kept c.keeping_lasts.ensures _ _ _ c.are_sure-sure.ensures.kept c.in_err-line.ensures.kept

pub returns-clause-kept : goal.returns-clause-kept
returns-clause-kept g c = bench_kept c.keeping_lasts.ensures _ _ _ c.are_sure-sure.ensures.kept c.in_ok-line.ensures.kept
