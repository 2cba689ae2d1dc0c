-- One place of a side changes, by what stands at a place of the other side.
use Rattle.std.proofs.Common.{◌≡◌, ℕ, ◌<◌, List, length, map, slice_set, slice_index_or, sym, ◌∙◌, ap, subst, get_or-set_same}
use Rattle.std.proofs.lemmas.List.{map-set}
use Rattle.player_core.specs.State.{PlayerState, state_at, no_state}
use Rattle.player_core.proofs.Sides.{map_read, map_changed}
use Rattle.match_play.specs.Followed.{HasFollowed}

pub map_changed_by : {A B : Type 0} (f : A → PlayerState) (xs : List A) (i : ℕ) (x y : A) (g : B → PlayerState) (zs : List B) (j : ℕ) (z : B) (v : PlayerState → PlayerState → PlayerState)
    → i < length (map f xs) → j < length (map g zs) → x ≡ slice_index_or xs i x → z ≡ slice_index_or zs j z → f y ≡ v (f x) (g z)
    → map f (slice_set xs i y) ≡ slice_set (map f xs) i (v (state_at (map f xs) i) (state_at (map g zs) j))
map_changed_by f xs i x y g zs j z v hi hj is_x is_z e =
    map_changed f xs i x y (λ s. v s (state_at (map g zs) j)) no_state hi is_x (e ∙ ap (λ t. v (f x) t) (map_read g zs j z no_state hj is_z))

-- what stands at a place that was written
place_written : {A : Type 0} (f : A → PlayerState) (xs : List A) (i : ℕ) (y : A) → i < length (map f xs) → state_at (map f (slice_set xs i y)) i ≡ f y
place_written f xs i y inside = ap (λ s. state_at s i) (map-set f xs i y) ∙ get_or-set_same (map f xs) i (f y) no_state inside

-- no other place has changed
pub others_stay : {A : Type 0} (f : A → PlayerState) (xs : List A) (i : ℕ) (y : A) → i < length (map f xs)
    → map f (slice_set xs i y) ≡ slice_set (map f xs) i (state_at (map f (slice_set xs i y)) i)
others_stay f xs i y inside = map-set f xs i y ∙ ap (λ s. slice_set (map f xs) i s) (sym (place_written f xs i y inside))

-- the players at a place of each side have followed their match
pub followed_at : {A B : Type 0} (f : A → PlayerState) (xs : List A) (i : ℕ) (x y : A) (g : B → PlayerState) (zs : List B) (j : ℕ) (z w : B) (turns : ℕ)
    → i < length (map f xs) → j < length (map g zs) → x ≡ slice_index_or xs i x → z ≡ slice_index_or zs j z → HasFollowed (f x) (g z) (f y) (g w) turns
    → HasFollowed (state_at (map f xs) i) (state_at (map g zs) j) (state_at (map f (slice_set xs i y)) i) (state_at (map g (slice_set zs j w)) j) turns
followed_at f xs i x y g zs j z w turns hi hj is_x is_z followed =
    let P : PlayerState → Type 0 = λ s. HasFollowed s (g z) (f y) (g w) turns in
    let Q : PlayerState → Type 0 = λ s. HasFollowed (state_at (map f xs) i) s (f y) (g w) turns in
    let S : PlayerState → Type 0 = λ s. HasFollowed (state_at (map f xs) i) (state_at (map g zs) j) s (g w) turns in
    let T : PlayerState → Type 0 =
    λ s. HasFollowed (state_at (map f xs) i) (state_at (map g zs) j) (state_at (map f (slice_set xs i y)) i) s turns in
    subst T (sym (place_written g zs j w hj))
    (subst S (sym (place_written f xs i y hi)) (subst Q (map_read g zs j z no_state hj is_z) (subst P (map_read f xs i x no_state hi is_x) followed)))
