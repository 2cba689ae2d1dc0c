use Rattle.std.proofs.Common.{length}
use Rattle.std.specs.List.{All}
use Rattle.sheet_rules.specs.Entrants.{entrants_of}
use Rattle.round_robin.specs.Entries.{IsInRangeLess}
use Rattle.round_robin.proofs.Entering.{all_in_range, all_raised, are_contestants, asked_entrants, can_be_lowered, few_turns_of, most_entrants, of_entrants, right_entries, right_lines, true_totals, whatever}
use Rattle.round_robin.proofs.entries.entry_totals.Goals as goal

pub totals-requires-clause-contestants : goal.totals-requires-clause-contestants
totals-requires-clause-contestants g c = are_contestants _ c.args.entrants.now c.requires.entries

pub totals-requires-clause-few_turns : goal.totals-requires-clause-few_turns
totals-requires-clause-few_turns g c =
    few_turns_of _ _ c.requires.fits c.args.entrants.now c.args.turns c.args.pairs.now c.requires.pairs c.requires.few_turns

pub lowered-requires-clause-raised : goal.lowered-requires-clause-raised
lowered-requires-clause-raised g c =
    can_be_lowered (length (entrants_of c.args.entrants.now)) c.args.pairs.now c.in_ok-raised.raised c.requires.entries.few c.requires.pairs c.in_ok-raised.ensures.lines.places
    (of_entrants c.args.entrants.now c.in_ok-raised.raised c.in_ok-raised.ensures.entries)
    (all_raised c.lines_hold.ensures _ _ c.requires.fits (entrants_of c.args.entrants.now) _ c.args.game.now c.args.turns c.args.pairs.now c.in_ok-raised.raised.matches c.unsigned-payoffs.ensures.game c.requires.few_turns c.in_ok-raised.ensures.lines)

pub returns-clause-lines_right : goal.returns-clause-lines_right
returns-clause-lines_right g c =
    right_lines c.args.offset c.in_ok-raised.raised.matches _ c.lowered.result c.lowered.ensures.matches
    (true_totals c.entries_are_true.ensures _ c.args.entrants.now c.args.game.now c.args.offset c.args.turns c.args.pairs.now c.in_ok-raised.raised.matches c.requires.entries c.requires.pairs c.in_ok-raised.ensures.lines).lines_right

pub returns-clause-range : goal.returns-clause-range
returns-clause-range g c =
    right_lines c.args.offset c.in_ok-raised.raised.matches (All (IsInRangeLess c.args.offset c.args.turns)) c.lowered.result c.lowered.ensures.matches
    (all_in_range c.lines_hold.ensures _ _ c.requires.fits (entrants_of c.args.entrants.now) _ c.args.game.now c.args.turns c.args.pairs.now c.in_ok-raised.raised.matches c.unsigned-payoffs.ensures.game c.requires.few_turns c.in_ok-raised.ensures.lines c.args.offset)

pub returns-clause-entries_right : goal.returns-clause-entries_right
returns-clause-entries_right g c =
    right_entries c.args.offset (length (entrants_of c.args.entrants.now)) c.in_ok-raised.raised.matches _ c.lowered.result c.lowered.ensures.matches
    (c.lowered.ensures.entries (length (entrants_of c.args.entrants.now)) (of_entrants c.args.entrants.now c.in_ok-raised.raised c.in_ok-raised.ensures.entries))
    (true_totals c.entries_are_true.ensures _ c.args.entrants.now c.args.game.now c.args.offset c.args.turns c.args.pairs.now c.in_ok-raised.raised.matches c.requires.entries c.requires.pairs c.in_ok-raised.ensures.lines).entries_right

pub returns-clause-entries : goal.returns-clause-entries
returns-clause-entries g c =
    c.lowered.ensures.entries (length (entrants_of c.args.entrants.now)) (of_entrants c.args.entrants.now c.in_ok-raised.raised c.in_ok-raised.ensures.entries)

pub returns-clause-asked : goal.returns-clause-asked
returns-clause-asked g c = whatever c.lowered.result _ (asked_entrants _ _ c.args.entrants.now c.args.turns c.args.pairs.now c.in_ok-raised.ensures.asked)

pub returns-in_err-raised-clause-most : goal.returns-in_err-raised-clause-most
returns-in_err-raised-clause-most g c = most_entrants _ _ c.args.entrants.now c.args.pairs.now c.in_err-raised.ensures.most

pub returns-clause-most : goal.returns-clause-most
returns-clause-most g c = most_entrants _ _ c.args.entrants.now c.args.pairs.now c.in_ok-raised.ensures.most
