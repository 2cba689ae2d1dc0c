use Rattle.std.proofs.Common.{inr, ◌∙◌}
use Rattle.sheet_rules.specs.Entrants.{entrants_of}
use Rattle.play_commands.proofs.Drilling.{asked_known, known_entries, known_pairs, known_turns, most_known}
use Rattle.play_commands.proofs.Drills.{told_of}
use Rattle.play_commands.proofs.Sparing.{nobody}
use Rattle.play_commands.proofs.TableLines.{raised_ranges}
use Rattle.play_commands.proofs.drill_job.results.Goals as goal

pub entry_totals-requires-clause-entries : goal.entry_totals-requires-clause-entries
entry_totals-requires-clause-entries g c =
    known_entries _ _ c.requires.fits c.args.sheets.now c.requires.machines (entrants_of c.deref.result.now) (rw c.deref.ensures.value c.in_ok-contestants.ensures) c.deref-2.result.now (c.deref-2.ensures.value ∙ c.in_ok-pairs.ensures.pairs)

pub entry_totals-requires-clause-pairs : goal.entry_totals-requires-clause-pairs
entry_totals-requires-clause-pairs g c =
    known_pairs _ _ c.requires.fits c.args.sheets.now c.requires.machines (entrants_of c.deref.result.now) (rw c.deref.ensures.value c.in_ok-contestants.ensures) c.deref-2.result.now (c.deref-2.ensures.value ∙ c.in_ok-pairs.ensures.pairs) c.tournaments_ascend.ensures

pub entry_totals-requires-clause-few_turns : goal.entry_totals-requires-clause-few_turns
entry_totals-requires-clause-few_turns g c =
    known_turns _ _ c.requires.fits c.args.sheets.now c.requires.machines (entrants_of c.deref.result.now) (rw c.deref.ensures.value c.in_ok-contestants.ensures) c.deref-2.result.now (c.deref-2.ensures.value ∙ c.in_ok-pairs.ensures.pairs) c.tournaments_ascend.ensures

pub returns-clause-told : goal.returns-clause-told
returns-clause-told g c =
    told_of _ _ c.requires.fits c.args.sheets.now c.requires.machines (entrants_of c.deref.result.now) (rw c.deref.ensures.value c.in_ok-contestants.ensures) c.deref-2.result.now (c.deref-2.ensures.value ∙ c.in_ok-pairs.ensures.pairs) c.tournaments_ascend.ensures c.sums_are_held.ensures c.in_ok-results.results
    c.in_ok-results.ensures.lines_right (raised_ranges _ c.in_ok-results.results.matches c.in_ok-results.ensures.range) c.in_ok-results.ensures.entries_right c.in_ok-results.ensures.entries

pub returns-clause-asked : goal.returns-clause-asked
returns-clause-asked g c =
    asked_known _ _ c.requires.fits c.args.sheets.now c.requires.machines (entrants_of c.deref.result.now) (rw c.deref.ensures.value c.in_ok-contestants.ensures) c.deref-2.result.now (c.deref-2.ensures.value ∙ c.in_ok-pairs.ensures.pairs) _ _ c.in_ok-results.ensures.asked

pub returns-in_err-contestants-clause-most : goal.returns-in_err-contestants-clause-most
returns-in_err-contestants-clause-most g c = nobody _ _

pub returns-in_err-pairs-clause-most : goal.returns-in_err-pairs-clause-most
returns-in_err-pairs-clause-most g c = nobody _ _

pub returns-in_err-results-clause-most : goal.returns-in_err-results-clause-most
returns-in_err-results-clause-most g c =
    inr (most_known _ _ c.requires.fits c.args.sheets.now c.requires.machines (entrants_of c.deref.result.now) (rw c.deref.ensures.value c.in_ok-contestants.ensures) c.deref-2.result.now (c.deref-2.ensures.value ∙ c.in_ok-pairs.ensures.pairs) _ _ c.in_err-results.ensures.most)

pub returns-clause-most : goal.returns-clause-most
returns-clause-most g c =
    inr (most_known _ _ c.requires.fits c.args.sheets.now c.requires.machines (entrants_of c.deref.result.now) (rw c.deref.ensures.value c.in_ok-contestants.ensures) c.deref-2.result.now (c.deref-2.ensures.value ∙ c.in_ok-pairs.ensures.pairs) _ _ c.in_ok-results.ensures.most)
