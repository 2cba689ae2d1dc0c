use Rattle.std.proofs.Common.{◌≡◌, ℕ, ◌<◌, length, get_or}
use Rattle.product_chain.specs.declared.course.Fork.{Fork}
use Rattle.product_chain.specs.Course.{IsAnswer}
use Rattle.product_chain.proofs.course.all_answers.Given as goal

abbrev pub invariant-loop-row : goal.invariant-loop-row
invariant-loop-row l = record {
  size : length l.all.items ≡ l.row;
  each : (j : ℕ) (d : Fork) → j < l.row → IsAnswer l.grid j l.mine (get_or l.all.items j d);
}
