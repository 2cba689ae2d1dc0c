-- How many items an array has.
use Rattle.std.proofs.Common.{◌≡◌, List, [], ◌∷◌, length, refl, arith}
use Rattle.toml.specs.declared.value.Value.{Value}
use Rattle.toml.specs.View.{items_view}
use Rattle.lab_keys.specs.Keys.{item_count}

pub counted : (vs : List Value) → item_count (items_view vs) ≡ length vs
counted [] = refl
counted (v ∷ vs) = omega (arith, counted vs)
