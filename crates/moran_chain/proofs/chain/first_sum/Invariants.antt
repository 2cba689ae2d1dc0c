use Rattle.std.proofs.Common.{ℕ, ◌+◌, ◌*◌, ◌-◌, ◌≤◌}
use Rattle.scaled_span.specs.Values.{IsIn, EndsAreClose, ExponentsWithin}
use Rattle.moran_chain.specs.Ranges.{Worths, AllLie, AllNarrow, first_worth, second_worth, nested, stretch}
use Rattle.moran_chain.proofs.chain.first_sum.Given as goal

abbrev pub invariant-loop-k : goal.invariant-loop-k
invariant-loop-k l = record {
  high : l.k ≤ l.i - 1;
  holds : (v : Worths) → AllLie l.t v → IsIn l.sum (nested (first_worth v l.m) (second_worth v l.m) l.k (l.i - 1 - l.k));
  product : (v : Worths) → AllLie l.t v → IsIn l.product (stretch (first_worth v l.m) (second_worth v l.m) l.k (l.i - 1 - l.k));
  tight : (n : ℕ) → AllNarrow n l.t → EndsAreClose ((2 * n + 10) * (l.i - 1 - l.k) + 2) l.sum;
  product_tight : (n : ℕ) → AllNarrow n l.t → EndsAreClose ((2 * n + 8) * (l.i - l.k)) l.product;
  exponents : ExponentsWithin (490 * (l.i - 1 - l.k) + 70) l.sum;
  product_exponents : ExponentsWithin (420 * (l.i - l.k)) l.product;
}

abbrev pub decreases-loop-k : goal.decreases-loop-k
decreases-loop-k l = l.k
