use Rattle.std.proofs.Common.{length, ap, inr, ◌∙◌}
use Rattle.lab_file.specs.Lab.{LabData}
use Rattle.job_tables.specs.Tournament.{tournament_pairs}
use Rattle.sheet_rules.specs.Entrants.{entrants_of}
use Rattle.play_commands.proofs.Contesting.{are_entrants, are_entries, are_pairs_of, are_few_turns, entries_of_lab, few_turns_of, lines_of}
use Rattle.play_commands.proofs.TableLines.{results_shown}
use Rattle.play_commands.proofs.Sparing.{may_pairs, nobody}
use Rattle.play_commands.proofs.tournament.results.Goals as goal

pub entry_totals-requires-clause-entries : goal.entry_totals-requires-clause-entries
entry_totals-requires-clause-entries g c =
    are_entries c.notes_tell.ensures _ _ c.requires.fits c.args.lab.now c.requires.noted c.args.contestants.now c.requires.contestants c.shape.ensures

pub entry_totals-requires-clause-pairs : goal.entry_totals-requires-clause-pairs
entry_totals-requires-clause-pairs g c =
    are_pairs_of c.tournaments_ascend.ensures c.args.job.now _ _ c.deref.result.now (are_entrants c.args.lab.now c.args.contestants.now c.requires.contestants).count
    (c.deref.ensures.value ∙ c.in_ok-pairs.ensures.pairs ∙ ap (tournament_pairs c.args.job.now) (c.len.ensures ∙ ap (λ (l : LabData). length l.entries) c.lab.view_is))

pub entry_totals-requires-clause-few_turns : goal.entry_totals-requires-clause-few_turns
entry_totals-requires-clause-few_turns g c =
    few_turns_of _ _ c.requires.fits (entrants_of c.args.contestants.now) c.args.job.now.turns c.deref.result.now _
    (c.deref.ensures.value ∙ c.in_ok-pairs.ensures.pairs ∙ ap (tournament_pairs c.args.job.now) (c.len.ensures ∙ ap (λ (l : LabData). length l.entries) c.lab.view_is))
    (are_few_turns c.notes_tell.ensures _ _ c.requires.fits c.args.lab.now c.requires.noted c.args.contestants.now c.requires.contestants
    c.matches_are_kept.ensures c.tournaments_ascend.ensures c.args.job.now c.requires.sound c.requires.limits)

pub returns-clause-lines : goal.returns-clause-lines
returns-clause-lines g c =
    lines_of _ _ c.requires.fits (entrants_of c.args.contestants.now) c.args.lab.now.game _ c.args.lab.now.offset _ c.args.job.now.turns c.deref.result.now _
    (ap (λ (l : LabData). l.game) c.lab.view_is) (ap (λ (l : LabData). l.offset) c.lab.view_is) (c.deref.ensures.value ∙ c.in_ok-pairs.ensures.pairs ∙ ap (tournament_pairs c.args.job.now) (c.len.ensures ∙ ap (λ (l : LabData). length l.entries) c.lab.view_is)) c.in_ok-results.results.matches c.in_ok-results.ensures.lines_right

pub returns-clause-entries : goal.returns-clause-entries
returns-clause-entries g c =
    entries_of_lab _ _ c.requires.fits (entrants_of c.args.contestants.now) c.args.lab.now.game _ c.args.lab.now.offset _ c.args.job.now.turns c.deref.result.now _
    (ap (λ (l : LabData). l.game) c.lab.view_is) (ap (λ (l : LabData). l.offset) c.lab.view_is) (c.deref.ensures.value ∙ c.in_ok-pairs.ensures.pairs ∙ ap (tournament_pairs c.args.job.now) (c.len.ensures ∙ ap (λ (l : LabData). length l.entries) c.lab.view_is)) _ c.in_ok-results.results.entries (are_entrants c.args.lab.now c.args.contestants.now c.requires.contestants).count c.in_ok-results.ensures.entries_right

pub returns-clause-showable : goal.returns-clause-showable
returns-clause-showable g c =
    results_shown _ _ c.requires.fits c.args.lab.now c.shape.ensures (entrants_of c.args.contestants.now) _ _ c.args.job.now.turns (length c.args.lab.now.entries) c.deref.result.now
    (tournament_pairs c.args.job.now (length c.args.lab.now.entries)) c.in_ok-results.results
    (ap (λ (l : LabData). l.game) c.lab.view_is) (ap (λ (l : LabData). l.offset) c.lab.view_is) c.requires.sound.some_turns c.requires.sound.few_turns c.shape.ensures.entries.few (are_entrants c.args.lab.now c.args.contestants.now c.requires.contestants).count
    (c.tournaments_ascend.ensures c.args.job.now (length c.args.lab.now.entries)).few
    (c.deref.ensures.value ∙ c.in_ok-pairs.ensures.pairs ∙ ap (tournament_pairs c.args.job.now) (c.len.ensures ∙ ap (λ (l : LabData). length l.entries) c.lab.view_is)) c.in_ok-results.ensures.lines_right c.in_ok-results.ensures.range c.in_ok-results.ensures.entries

pub returns-clause-asked : goal.returns-clause-asked
returns-clause-asked g c =
    rw (← (c.deref.ensures.value ∙ c.in_ok-pairs.ensures.pairs ∙ ap (tournament_pairs c.args.job.now) (c.len.ensures ∙ ap (λ (l : LabData). length l.entries) c.lab.view_is)))
    c.in_ok-results.ensures.asked

pub returns-in_err-pairs-clause-most : goal.returns-in_err-pairs-clause-most
returns-in_err-pairs-clause-most g c = nobody _ _

pub returns-in_err-results-clause-most : goal.returns-in_err-results-clause-most
returns-in_err-results-clause-most g c = inr (may_pairs _ _ (entrants_of c.args.contestants.now) c.deref.result.now _
    (c.deref.ensures.value ∙ c.in_ok-pairs.ensures.pairs ∙ ap (tournament_pairs c.args.job.now) (c.len.ensures ∙ ap (λ (l : LabData). length l.entries) c.lab.view_is)) c.in_err-results.ensures.most)

pub returns-clause-most : goal.returns-clause-most
returns-clause-most g c = inr (may_pairs _ _ (entrants_of c.args.contestants.now) c.deref.result.now _
    (c.deref.ensures.value ∙ c.in_ok-pairs.ensures.pairs ∙ ap (tournament_pairs c.args.job.now) (c.len.ensures ∙ ap (λ (l : LabData). length l.entries) c.lab.view_is)) c.in_ok-results.ensures.most)
