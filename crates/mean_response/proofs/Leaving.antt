-- The ways out of one row more.
use Rattle.std.proofs.Common.{ℕ, ◌+◌, ◌≡◌, ◌<◌, inl, inr, List, [], ◌∷◌, ◌++◌, length, length-append, slice_index_or, sym, ap, ◌∙◌, subst, arith}
use Rattle.std.proofs.lemmas.Bool.{cases_lt}
use Rattle.std.proofs.lemmas.List.{get_or_append_left, get_or_push}
use Rattle.history_model.specs.declared.moves.Move.TheVariants.{C, D}
use Rattle.history_model.specs.Game.{Payoffs}
use Rattle.history_model.specs.Automaton.{Automaton}
use Rattle.mean_response.specs.declared.graph.Exits.{Exits}
use Rattle.mean_response.specs.Graph.{IsExit, AreExits}

-- what holds of each element holds after a push
pushed : (P : ℕ → Exits → Type 0) (xs : List Exits) (n : ℕ) (x : Exits) → length xs ≡ n → ((row : ℕ) (d : Exits) → row < n → P row (slice_index_or xs row d)) → P n x →
    (row : ℕ) (d : Exits) → row < n + 1 → P row (slice_index_or (xs ++ x ∷ []) row d)
pushed P xs n x size old new row d h = elim (cases_lt row n) [
  | inl l ↦ (let e : slice_index_or (xs ++ x ∷ []) row d ≡ slice_index_or xs row d = get_or_append_left xs (x ∷ []) d row (omega arith) in rw e (old row d l))
  | inr l ↦ (let s : row ≡ n = omega arith in let e : slice_index_or (xs ++ x ∷ []) row d ≡ x = get_or_push xs x d row (size ∙ sym s) in rw e (subst (λ k. P k x) (sym s) new))
]

pub one_row_more : (them : Automaton) (game : Payoffs) (n : ℕ) (all : List Exits) (x : Exits) → AreExits them game n all → IsExit them game n C x.c → IsExit them game n D x.d →
    AreExits them game (n + 1) (all ++ x ∷ [])
one_row_more them game n all x h c d = record {
  size = length-append all (x ∷ []) ∙ ap (λ k. k + 1) h.size;
  if_c = pushed (λ row e. IsExit them game row C e.c) all n x h.size h.if_c c;
  if_d = pushed (λ row e. IsExit them game row D e.d) all n x h.size h.if_d d;
}
