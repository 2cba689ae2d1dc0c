-- The forks of a move, row by row.
use Rattle.std.proofs.Common.{ℕ, ◌+◌, ◌≡◌, ◌<◌, ◌≤◌, List, [], ◌∷◌, ◌++◌, length, length-append, get_or, arith, sym, subst, refl, ◌∙◌}
use Rattle.std.proofs.Math.ListN.{get_or-append}
use Rattle.std.proofs.lemmas.List.{get_or_push, get_or_default}
use borrow.Author.Count.{below_more}
use Rattle.history_model.specs.declared.moves.Move.{Move}
use Rattle.history_model.specs.Automaton.{Automaton}
use Rattle.product_chain.specs.declared.course.Fork.{Fork}
use Rattle.product_chain.specs.Course.{AreForks, IsFork, IsInside}

-- the forks of the first rows
pub record AreForksTo (a : Automaton) (mine : Move) (rows : ℕ) (forks : List Fork) (places : List ℕ) : Type 0 where
  pub size : length places ≡ rows
  pub few : length forks ≤ rows
  pub inside : (k : ℕ) (d : Fork) → k < length forks → IsInside (length a.rows) (get_or forks k d)
  pub placed : (u : ℕ) → u < rows → get_or places u 0 < length forks
  pub each : (u : ℕ) (d : Fork) → u < rows → IsFork a u mine (get_or forks (get_or places u 0) d)

module _ (a : Automaton) (mine : Move) (rows : ℕ) (forks : List Fork) (places : List ℕ) (fork : Fork) (so_far : AreForksTo a mine rows forks places) (right : IsFork a rows mine fork) where
  old_place : (k u : ℕ) → u < rows → get_or (places ++ k ∷ []) u 0 ≡ get_or places u 0
  old_place k u h = get_or-append places (k ∷ []) 0 u (omega (arith, so_far.size, h))

  new_place : (k : ℕ) → get_or (places ++ k ∷ []) rows 0 ≡ k
  new_place k = get_or_push places k 0 rows so_far.size

  -- a fork that is known
  pub known_fork : (k : ℕ) → k < length forks → ((d : Fork) → get_or forks k d ≡ fork) → AreForksTo a mine (rows + 1) forks (places ++ k ∷ [])
  known_fork k within value = record {
    size = omega (arith, length-append places (k ∷ []), so_far.size);
    few = omega (arith, so_far.few);
    inside = so_far.inside;
    placed = λ u h. below_more (λ i. get_or (places ++ k ∷ []) i 0 < length forks) rows (λ i g. rw (old_place k i g) (so_far.placed i g)) (rw (new_place k) within) u h;
    each = λ u d h. below_more (λ i. IsFork a i mine (get_or forks (get_or (places ++ k ∷ []) i 0) d)) rows (λ i g. rw (old_place k i g) (so_far.each i d g)) (rw (new_place k, value d) right) u h;
  }

  -- a fork that is not
  pub new_fork : IsInside (length a.rows) fork → AreForksTo a mine (rows + 1) (forks ++ fork ∷ []) (places ++ length forks ∷ [])
  new_fork within =
      let more : length (forks ++ fork ∷ []) ≡ length forks + 1 = omega (arith, length-append forks (fork ∷ [])) in
      let kept : (k : ℕ) (d : Fork) → k < length forks → get_or (forks ++ fork ∷ []) k d ≡ get_or forks k d = λ k d h. get_or-append forks (fork ∷ []) d k h in
      let last : (d : Fork) → get_or (forks ++ fork ∷ []) (length forks) d ≡ fork = λ d. get_or_push forks fork d (length forks) refl in
      record {
        size = omega (arith, length-append places (length forks ∷ []), so_far.size);
        few = omega (arith, more, so_far.few);
        inside = λ k d h. below_more (λ i. IsInside (length a.rows) (get_or (forks ++ fork ∷ []) i d)) (length forks) (λ i g. rw (kept i d g) (so_far.inside i d g)) (rw (last d) within) k (omega (arith, more, h));
        placed = λ u h. below_more (λ i. get_or (places ++ length forks ∷ []) i 0 < length (forks ++ fork ∷ [])) rows
            (λ i g. rw (old_place (length forks) i g) (omega (arith, more, so_far.placed i g))) (rw (new_place (length forks)) (omega (arith, more))) u h;
        each = λ u d h. below_more (λ i. IsFork a i mine (get_or (forks ++ fork ∷ []) (get_or (places ++ length forks ∷ []) i 0) d)) rows
            (λ i g. rw (old_place (length forks) i g, kept (get_or places i 0) d (so_far.placed i g)) (so_far.each i d g)) (rw (new_place (length forks), last d) right) u h;
      }

-- a fork that was read leads to rows
pub fork_inside : (a : Automaton) (mine : Move) (forks : List Fork) (places : List ℕ) (k : ℕ) (fork : Fork) → AreForks a mine forks places → k < length forks →
    fork ≡ get_or forks k fork → IsInside (length a.rows) fork
fork_inside a mine forks places k fork right h read = subst (IsInside (length a.rows)) (sym read) (right.inside k fork h)

-- a place that was read, and the fork there
module _ (a : Automaton) (mine : Move) (forks : List Fork) (places : List ℕ) (u place : ℕ) (right : AreForks a mine forks places) (within : u < length a.rows) (read : place ≡ get_or places u place) where
  place_is : get_or places u 0 ≡ place
  place_is = sym (read ∙ get_or_default places u place 0 (let h : u < length places = omega (arith, right.size, within) in h))

  pub place_within : place < length forks
  place_within = subst (λ z. z < length forks) place_is (right.placed u within)

  pub fork_there : (d : Fork) → IsFork a u mine (get_or forks place d)
  fork_there d = subst (λ z. IsFork a u mine (get_or forks z d)) place_is (right.each u d within)
