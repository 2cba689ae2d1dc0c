use Rattle.std.proofs.Common.{List, arith, ap, ◌∙◌}
use Rattle.fixed_span.specs.Span.{Ends}
use Rattle.result_lines.specs.Ranks.{rank_of}
use Rattle.result_lines.proofs.Listing.{pushed_more}
use Rattle.result_lines.proofs.Summing.{as_many, entry_is, total_read}
use Rattle.result_lines.proofs.scoring.entries_of.Goals as goal

pub index-requires : goal.index-requires
index-requires c = let many = as_many _ _ _ c.in_ok-spans.ensures in omega arith

pub rank_of-requires-clause-inside : goal.rank_of-requires-clause-inside
rank_of-requires-clause-inside c = let many = as_many _ _ _ c.in_ok-spans.ensures in omega arith

pub rank_of-requires-clause-few : goal.rank_of-requires-clause-few
rank_of-requires-clause-few c = let many = as_many _ _ _ c.in_ok-spans.ensures in omega arith

pub loop-i-preserved : goal.loop-i-preserved
loop-i-preserved c =
    pushed_more _ _ _ _ _ c.in_ok-push.ensures.items c.loop-i.invariant
    (entry_is _ _ _ _ _ _ _ _ c.in_ok-spans.ensures
    (total_read _ _ _ _ _ c.in_ok-spans.ensures c.loop-i-test.true c.index.ensures)
    (c.rank_of.ensures ∙ ap (λ (ss : List Ends). rank_of ss c.loop-i.i) c.deref.ensures.value)
    c.wins_of.ensures c.undecided_of.ensures)
