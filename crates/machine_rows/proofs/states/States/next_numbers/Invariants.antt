use Rattle.std.proofs.Common.{◌≡◌, ℕ, ◌*◌, ◌<◌, ◌++◌, drop, length, slice_index}
use Rattle.machine_rows.specs.Rows.{numbers_of}
use Rattle.machine_rows.proofs.states.States.next_numbers.Given as goal

abbrev pub invariant-loop-exits : goal.invariant-loop-exits
invariant-loop-exits l = record {
  rest : numbers_of l.self.numbers.keys l.self.exits.items ≡ l.numbers.items ++ numbers_of l.self.numbers.keys (drop l.exits-index l.self.exits.items);
  whole : length l.numbers.items ≡ 2 * l.exits-index;
  within : (k : ℕ) → k < length l.numbers.items → slice_index l.numbers.items k < length l.self.numbers.keys;
}
