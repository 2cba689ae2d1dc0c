use Rattle.std.proofs.Common.{◌≡◌, ℕ, ◌<◌, ◌*◌, length, get_or}
use Rattle.history_model.specs.declared.moves.Move.TheVariants.{C}
use Rattle.history_model.specs.Expectation.{shown}
use Rattle.history_model.specs.Automaton.{weight_at}
use Rattle.product_chain.specs.Slim.{IsPart}
use Rattle.product_chain.proofs.slim.all_parts.Given as goal

abbrev pub invariant-loop-row : goal.invariant-loop-row
invariant-loop-row l = record {
  size : length l.all.items ≡ l.row;
  each : (j : ℕ) → j < l.row → IsPart (shown l.noise l.grid.den (weight_at l.grid j) C) (l.grid.den * l.noise.e) (get_or l.all.items j 0);
}
