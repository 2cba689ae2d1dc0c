-- Lists that are filled from the front.
use Rattle.std.proofs.Common.{◌≡◌, ℕ, ◌+◌, List, [], ◌∷◌, ◌++◌, map, sym, ◌∙◌, ap, arith}
use Rattle.std.specs.List.{range_with_len}
use Rattle.std.proofs.lemmas.List.FromFn.{map-range_with_len_more}

-- one item more by its place
pub pushed_more : {X : Type 0} (f : ℕ → X) (i : ℕ) (xs ys : List X) (x : X) → ys ≡ xs ++ x ∷ [] → xs ≡ map f (range_with_len 0 i) → x ≡ f i
    → ys ≡ map f (range_with_len 0 (i + 1))
pushed_more f i xs ys x pushed before is =
    pushed
    ∙ ap (λ zs. zs ++ x ∷ []) before
    ∙ ap (λ z. map f (range_with_len 0 i) ++ z ∷ []) is
    ∙ sym (map-range_with_len_more f 0 i i (omega arith))
