use Rattle.std.proofs.Common.{◌≡◌, drop}
use Rattle.toml.specs.View.{items_view}
use Rattle.lab_keys.specs.Keys.{are_pairs}
use Rattle.lab_keys.proofs.values.are_pairs.Given as goal

abbrev pub invariant-loop-value : goal.invariant-loop-value
invariant-loop-value l = are_pairs (items_view l.array.items) ≡ are_pairs (items_view (drop l.value-index l.array.items))
