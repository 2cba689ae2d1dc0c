use Rattle.std.proofs.Common.{◌≡◌, drop}
use Rattle.toml.specs.View.{items_view}
use Rattle.lab_keys.specs.Keys.{are_texts}
use Rattle.lab_keys.proofs.values.are_texts.Given as goal

abbrev pub invariant-loop-value : goal.invariant-loop-value
invariant-loop-value l = are_texts (items_view l.array.items) ≡ are_texts (items_view (drop l.value-index l.array.items))
