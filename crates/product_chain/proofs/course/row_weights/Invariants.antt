use Rattle.std.proofs.Common.{◌≡◌, ℕ, ◌<◌, length, get_or}
use Rattle.product_chain.specs.declared.course.Weights.{Weights}
use Rattle.product_chain.specs.Course.{AreWeights}
use Rattle.product_chain.proofs.course.row_weights.Given as goal

abbrev pub invariant-loop-row : goal.invariant-loop-row
invariant-loop-row l = record {
  size : length l.all.items ≡ l.row;
  each : (j : ℕ) (d : Weights) → j < l.row → AreWeights l.grid l.noise j (get_or l.all.items j d);
}
