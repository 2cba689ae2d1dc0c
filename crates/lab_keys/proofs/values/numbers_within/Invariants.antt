use Rattle.std.proofs.Common.{◌≡◌, ℕ, ◌<◌, ◌≤◌, ◌++◌, drop, length, slice_index, option_map}
use Rattle.toml.specs.View.{items_view}
use Rattle.lab_keys.specs.Keys.{numbers_within}
use Rattle.lab_keys.proofs.values.numbers_within.Given as goal

abbrev pub invariant-loop-value : goal.invariant-loop-value
invariant-loop-value l = record {
  rest : numbers_within l.high (items_view l.array.items)
      ≡ option_map (λ more. l.numbers.items ++ more) (numbers_within l.high (items_view (drop l.value-index l.array.items)));
  whole : length l.numbers.items ≡ l.value-index;
  within : (k : ℕ) → k < length l.numbers.items → slice_index l.numbers.items k ≤ l.high;
}
