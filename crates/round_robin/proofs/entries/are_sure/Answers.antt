use Rattle.round_robin.proofs.Contesting.{bench_kept}
use Rattle.round_robin.proofs.Entering.{both_when, entry_kept, strategy_before}
use Rattle.round_robin.specs.Contest.{IsSureStrategy}
use Rattle.std.proofs.Common.{◌↔◌, IsTrue}
use Rattle.sheet_rules.specs.Entrants.{entrant_of}
use Rattle.round_robin.proofs.entries.are_sure.Goals as goal

pub is_sure-right_sure-requires-clause-entry : goal.is_sure-right_sure-requires-clause-entry
is_sure-right_sure-requires-clause-entry g c = entry_kept c.entries_play.ensures _ _ c.is_sure-left_sure.ensures.kept c.requires.fits _ c.requires.right

pub returns-then-left_sure-clause-value : goal.returns-then-left_sure-clause-value
returns-then-left_sure-clause-value g c =
    both_when _ _ c.is_sure-left_sure.result c.is_sure-right_sure.result c.is_sure-left_sure.ensures.value
    (strategy_before c.entries_play.ensures _ _ c.is_sure-left_sure.ensures.kept c.requires.fits (entrant_of c.args.right.now) (λ s. IsTrue c.is_sure-right_sure.result ↔ IsSureStrategy s) c.is_sure-right_sure.ensures.value)
    c.if-left_sure.true

pub returns-then-left_sure-clause-kept : goal.returns-then-left_sure-clause-kept
returns-then-left_sure-clause-kept g c = bench_kept c.keeping_lasts.ensures _ _ _ c.is_sure-left_sure.ensures.kept c.is_sure-right_sure.ensures.kept

pub returns-else-left_sure-clause-kept : goal.returns-else-left_sure-clause-kept
returns-else-left_sure-clause-kept g c = bench_kept c.keeping_lasts.ensures _ _ _ c.is_sure-left_sure.ensures.kept c.is_sure-right_sure.ensures.kept
