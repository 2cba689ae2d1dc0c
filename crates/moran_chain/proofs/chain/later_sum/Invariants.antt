use Rattle.std.proofs.Common.{ℕ, ◌+◌, ◌*◌, ◌-◌, ◌≤◌}
use Rattle.scaled_span.specs.Values.{IsIn, EndsAreClose, ExponentsWithin}
use Rattle.moran_chain.specs.Ranges.{Worths, AllLie, AllNarrow, first_worth, second_worth, nested}
use Rattle.moran_chain.proofs.chain.later_sum.Given as goal

abbrev pub invariant-loop-j : goal.invariant-loop-j
invariant-loop-j l = record {
  low : l.i ≤ l.j;
  high : l.j ≤ l.m - 1;
  holds : (v : Worths) → AllLie l.t v → IsIn l.sum (nested (first_worth v l.m) (second_worth v l.m) l.j (l.m - 1 - l.j));
  tight : (n : ℕ) → AllNarrow n l.t → EndsAreClose ((2 * n + 10) * (l.m - 1 - l.j) + 2) l.sum;
  exponents : ExponentsWithin (490 * (l.m - 1 - l.j) + 70) l.sum;
}

abbrev pub decreases-loop-j : goal.decreases-loop-j
decreases-loop-j l = l.j
