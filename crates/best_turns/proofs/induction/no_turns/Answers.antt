use Rattle.std.proofs.Common.{◌≡◌, ap, ◌∙◌, rules}
use Rattle.std.proofs.Math.ListN.{replicate}
use Rattle.strategy_trees.specs.Contest.{rows}
use Rattle.best_turns.specs.Meeting.{contest_of}
use Rattle.best_turns.specs.Rounded.{upper_of, lower_of}
use Rattle.best_turns.proofs.Rounding.{upper-zero, lower-zero}
use Rattle.best_turns.proofs.Tables.{no_cells}
use Rattle.best_turns.proofs.induction.no_turns.Goals as goal

pub returns : goal.returns
returns c =
    let k = contest_of c.args.prepared.now in
    let size : c.len-rows.result ≡ rows k = search rules in
    let high : c.in_ok-vec.field-0.items ≡ replicate c.len-rows.result 0 = search rules in
    let low : c.in_ok-vec-2.field-0.items ≡ replicate c.len-rows.result 0 = search rules in
    record {
      high = no_cells (upper_of k 0) (rows k) c.in_ok-vec.field-0.items (high ∙ ap (λ n. replicate n 0) size) (upper-zero k);
      low = no_cells (lower_of k 0) (rows k) c.in_ok-vec-2.field-0.items (low ∙ ap (λ n. replicate n 0) size) (lower-zero k);
    }
