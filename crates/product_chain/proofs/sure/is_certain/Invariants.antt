use Rattle.std.proofs.Common.{◌≡◌, ℕ, ◌<◌, ◌⊎◌}
use Rattle.history_model.specs.Automaton.{weight_at}
use Rattle.product_chain.proofs.sure.is_certain.Given as goal

abbrev pub invariant-loop-row : goal.invariant-loop-row
invariant-loop-row l = (j : ℕ) → j < l.row → (weight_at l.grid j ≡ 0) ⊎ (weight_at l.grid j ≡ l.grid.den)
