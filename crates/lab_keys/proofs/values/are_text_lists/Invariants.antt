use Rattle.std.proofs.Common.{◌≡◌, drop}
use Rattle.toml.specs.View.{items_view}
use Rattle.lab_keys.specs.Keys.{are_text_lists}
use Rattle.lab_keys.proofs.values.are_text_lists.Given as goal

abbrev pub invariant-loop-value : goal.invariant-loop-value
invariant-loop-value l = are_text_lists (items_view l.array.items) ≡ are_text_lists (items_view (drop l.value-index l.array.items))
