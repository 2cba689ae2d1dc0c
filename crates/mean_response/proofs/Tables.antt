-- A table as a list of layers.
use Rattle.std.proofs.Common.{ℕ, ◌+◌, ◌≡◌, ◌<◌, List, [], ◌∷◌, ◌++◌, length, slice_index_or, sym, ◌∙◌, subst, arith, inl, inr}
use Rattle.std.specs.Global.{Vec}
use Rattle.std.proofs.lemmas.Bool.{cases_lt}
use Rattle.std.proofs.lemmas.List.{get_or-map, map_push, get_or_push, get_or_append_left, length-map}
use Rattle.history_model.specs.Game.{Payoffs}
use Rattle.history_model.specs.Automaton.{Automaton}
use Rattle.mean_response.specs.Walks.{IsLayer, layers_of}

pub layer_item : (ls : List (Vec ℕ)) (k : ℕ) (d : Vec ℕ) → k < length ls → slice_index_or (layers_of ls) k [] ≡ (slice_index_or ls k d).items
layer_item ls k d h = get_or-map (λ l. l.items) ls k d [] h

pub record HasLayers (them : Automaton) (game : Payoffs) (n : ℕ) (ls : List (Vec ℕ)) : Type 0 where
  pub count : length ls ≡ n
  pub each : (k : ℕ) → k < n → IsLayer them game k (slice_index_or (layers_of ls) k [])

pub push_layer : (them : Automaton) (game : Payoffs) (n : ℕ) (ls : List (Vec ℕ)) (v : Vec ℕ) → length ls ≡ n → ((k : ℕ) → k < n → IsLayer them game k (slice_index_or (layers_of ls) k [])) → IsLayer them game n v.items →
    (k : ℕ) → k < n + 1 → IsLayer them game k (slice_index_or (layers_of (ls ++ v ∷ [])) k [])
push_layer them game n ls v count each new k h =
    let count' : length (layers_of ls) ≡ n = length-map ls (λ l. l.items) ∙ count in
    let e : layers_of (ls ++ v ∷ []) ≡ layers_of ls ++ v.items ∷ [] = map_push (λ l. l.items) ls v in
    elim (cases_lt k n) [
      | inl l ↦ (let i : slice_index_or (layers_of ls ++ v.items ∷ []) k [] ≡ slice_index_or (layers_of ls) k [] = get_or_append_left (layers_of ls) (v.items ∷ []) [] k (omega arith) in rw (e, i) (each k l))
      | inr l ↦ (let s : k ≡ n = omega arith in let i : slice_index_or (layers_of ls ++ v.items ∷ []) k [] ≡ v.items = get_or_push (layers_of ls) v.items [] k (count' ∙ sym s) in rw (e, i) (subst (λ n. IsLayer them game n v.items) (sym s) new))
    ]

pub pushed_size : (ls : List (Vec ℕ)) → length (layers_of ls) ≡ length ls
pushed_size ls = length-map ls (λ l. l.items)
