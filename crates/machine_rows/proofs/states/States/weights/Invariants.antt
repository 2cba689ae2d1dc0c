use Rattle.std.proofs.Common.{◌≡◌, ℕ, ◌*◌, ◌<◌, ◌≤◌, ◌++◌, drop, length, slice_index}
use Rattle.machine_rows.specs.Rows.{weights_of}
use Rattle.machine_rows.proofs.states.States.weights.Given as goal

abbrev pub invariant-loop-exits : goal.invariant-loop-exits
invariant-loop-exits l = record {
  rest : weights_of l.self.exits.items ≡ l.weights.items ++ weights_of (drop l.exits-index l.self.exits.items);
  whole : length l.weights.items ≡ 2 * l.exits-index;
  within : (k : ℕ) → k < length l.weights.items → slice_index l.weights.items k ≤ 1;
}
