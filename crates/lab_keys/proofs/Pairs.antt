-- Lists of two texts.
use Rattle.std.proofs.Common.{◌≡◌, ◌≢◌, List, [], ◌∷◌, length, get_or, Err, refl, arith}
use Rattle.toml.specs.declared.value.Value.{Value}
use Rattle.toml.specs.Data.{item, no_items}
use Rattle.toml.specs.View.{view, items_view}
use Rattle.refusals.specs.declared.place.Place.{Place}
use Rattle.refusals.specs.declared.refusal.Refusal.TheVariants.{OutOfRange}
use Rattle.lab_keys.specs.Keys.{pair_in}

-- the two items of a list of two
pub both : (vs : List Value) (d : Value) → length vs ≡ 2 → items_view vs ≡ item (view (get_or vs 0 d)) (item (view (get_or vs 1 d)) no_items)
both [] d h = absurd (omega arith)
both (v ∷ []) d h = absurd (omega arith)
both (v ∷ w ∷ []) d h = refl
both (v ∷ w ∷ u ∷ vs) d h = absurd (omega arith)

pub not_two : (place : Place) (vs : List Value) → length vs ≢ 2 → pair_in place (items_view vs) ≡ Err (OutOfRange place)
not_two place [] h = refl
not_two place (v ∷ []) h = refl
not_two place (v ∷ w ∷ []) h = absurd (omega arith)
not_two place (v ∷ w ∷ u ∷ vs) h = refl
