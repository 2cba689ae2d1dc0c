-- Rows seen on a walk, and what a turn says of the mean.
use Rattle.std.proofs.Common.{ℕ, ◌+◌, ◌-◌, ◌≡◌, ◌≢◌, ◌≤◌, ◌<◌, List, [], ◌∷◌, ◌++◌, length, take, refl, sym, ap, ◌∙◌, subst, arith, inl, inr, slice_index, slice_set, get_or-set_same, get_or-set_other, length-append, reverse}
use Rattle.std.proofs.lemmas.Bool.{cases_lt, cases_eq}
use Rattle.std.proofs.lemmas.List.{length-set, reverse-append, length-reverse}
use Rattle.history_model.specs.declared.moves.Move.{Move}
use Rattle.history_model.specs.Game.{Payoffs}
use Rattle.history_model.specs.Automaton.{Automaton, IsAutomaton}
use Rattle.history_model.specs.Mean.{step, led}
use Rattle.strategy_trees.specs.Lassos.{led_points}
use Rattle.mean_response.specs.Walks.{gain, best_at, IsTable}
use Rattle.mean_response.specs.Turns.{IsFull, IsTurn}
use Rattle.mean_response.proofs.Pigeon.{Repeats, pigeon}
use Rattle.mean_response.proofs.Walking.{led-append, led-inside, step-inside}
use Rattle.mean_response.proofs.Ratios.{best_is}

-- the rows before place j of a walk are marked by one more than a place
pub record IsSeen (them : Automaton) (ms : List Move) (j : ℕ) (seen : List ℕ) (row : ℕ) : Type 0 where
  pub size : length seen ≡ length them.rows
  pub inside : row < length them.rows
  pub here : row ≡ led them them.start (take j ms)
  pub low : (w : ℕ) → 0 < slice_index seen w → slice_index seen w ≤ j
  pub back : (w : ℕ) → 0 < slice_index seen w → led them them.start (take (slice_index seen w - 1) ms) ≡ w
  pub marked : (i : ℕ) → i < j → slice_index seen (led them them.start (take i ms)) ≡ i + 1

pub seen_none : (them : Automaton) → IsAutomaton them → (ms : List Move) (seen : List ℕ) → length seen ≡ length them.rows → ((w : ℕ) → slice_index seen w ≡ 0) → IsSeen them ms 0 seen them.start
seen_none them ok ms seen size none = record {
  size = size;
  inside = ok.started;
  here = refl;
  low = λ w h. (let z = none w in absurd (omega arith));
  back = λ w h. (let z = none w in absurd (omega arith));
  marked = λ i h. absurd (omega arith);
}

pub seen_more : (them : Automaton) → IsAutomaton them → (ms : List Move) (j : ℕ) (seen seen' : List ℕ) (row : ℕ) (m : Move) → IsSeen them ms j seen row → slice_index seen row ≤ 0 → seen' ≡ slice_set seen row (j + 1) →
    take (j + 1) ms ≡ take j ms ++ m ∷ [] → IsSeen them ms (j + 1) seen' (step them row m)
seen_more them ok ms j seen seen' row m s new e t =
    let same : slice_index seen' row ≡ j + 1 = ap (λ xs. slice_index xs row) e ∙ get_or-set_same seen row (j + 1) 0 (rw s.size s.inside) in
    let other : (w : ℕ) → w ≢ row → slice_index seen' w ≡ slice_index seen w = λ w ne. ap (λ xs. slice_index xs w) e ∙ get_or-set_other seen row w (j + 1) 0 ne in
    record {
      size = ap length e ∙ length-set seen row (j + 1) ∙ s.size;
      inside = step-inside them ok row m s.inside;
      here = ap (λ r. step them r m) s.here ∙ sym (led-append them them.start (take j ms) (m ∷ [])) ∙ ap (led them them.start) (sym t);
      low = λ w h. elim (cases_eq w row) [
        | inl i ↦ (let x : slice_index seen' w ≡ j + 1 = ap (slice_index seen') i ∙ same in omega arith)
        | inr ne ↦ (let x = other w ne in let y : slice_index seen w ≤ j = s.low w (omega arith) in omega arith)
      ];
      back = λ w h. elim (cases_eq w row) [
        | inl i ↦ (let x : slice_index seen' w - 1 ≡ j = (let y : slice_index seen' w ≡ j + 1 = ap (slice_index seen') i ∙ same in omega arith) in ap (λ k. led them them.start (take k ms)) x ∙ sym s.here ∙ sym i)
        | inr ne ↦ (let x = other w ne in ap (λ k. led them them.start (take (k - 1) ms)) x ∙ s.back w (omega arith))
      ];
      marked = λ i h. elim (cases_lt i j) [
        | inl l ↦ (let old : slice_index seen (led them them.start (take i ms)) ≡ i + 1 = s.marked i l in
            elim (cases_eq (led them them.start (take i ms)) row) [
              | inl x ↦ (let y : slice_index seen row ≡ i + 1 = ap (slice_index seen) (sym x) ∙ old in absurd (omega arith))
              | inr ne ↦ other (led them them.start (take i ms)) ne ∙ old
            ])
        | inr l ↦ (let x : i ≡ j = omega arith in ap (λ k. slice_index seen' (led them them.start (take k ms))) x ∙ ap (slice_index seen') (sym s.here) ∙ same ∙ ap (λ k. k + 1) (sym x))
      ];
    }

pub seen_turn : (them : Automaton) (ms : List Move) (j : ℕ) (seen : List ℕ) (row : ℕ) → IsSeen them ms j seen row → j ≤ length ms → 0 < slice_index seen row → IsTurn them ms (slice_index seen row - 1) j
seen_turn them ms j seen row s h some = record {
  order = (let l : slice_index seen row ≤ j = s.low row some in omega arith);
  inside = h;
  same = s.back row some ∙ s.here;
}

-- a walk of R moves comes back to a row
pub seen_all : (them : Automaton) → IsAutomaton them → (ms : List Move) (seen : List ℕ) (row : ℕ) → IsSeen them ms (length them.rows) seen row → slice_index seen row ≤ 0 → ⊥
seen_all them ok ms seen row s new =
    let n = length them.rows in
    let r : Repeats n (λ j. led them them.start (take j ms)) = pigeon n (λ j. led them them.start (take j ms)) (λ j h. led-inside them ok them.start (take j ms) ok.started) in
    let o : r.first < r.second = r.order in
    let l : r.second ≤ n = r.last in
    let one : slice_index seen (led them them.start (take r.first ms)) ≡ r.first + 1 = s.marked r.first (omega arith) in
    elim (cases_lt r.second n) [
      | inl k ↦ (let two : slice_index seen (led them them.start (take r.second ms)) ≡ r.second + 1 = s.marked r.second k in
          let e : slice_index seen (led them them.start (take r.first ms)) ≡ slice_index seen (led them them.start (take r.second ms)) = ap (slice_index seen) r.same in absurd (omega arith))
      | inr k ↦ (let x : r.second ≡ n = omega arith in
          let e : led them them.start (take r.first ms) ≡ row = r.same ∙ ap (λ k. led them them.start (take k ms)) x ∙ sym s.here in
          let y : slice_index seen row ≡ r.first + 1 = ap (slice_index seen) (sym e) ∙ one in absurd (omega arith))
    ]

-- the walk back from row `at` of the last layer, i moves long
pub record IsBack (them : Automaton) (game : Payoffs) (ls : List (List ℕ)) (at i : ℕ) (ms : List Move) (row : ℕ) : Type 0 where
  pub size : length ms ≡ i
  pub inside : row < length them.rows
  pub some : 0 < best_at ls (length them.rows - i) row
  pub leads : led them row (reverse ms) ≡ at
  pub scores : best_at ls (length them.rows - i) row + led_points them game row (reverse ms) ≡ best_at ls (length them.rows) at

pub back_more : (them : Automaton) (game : Payoffs) (ls : List (List ℕ)) (at i : ℕ) (ms ms' : List Move) (row from k : ℕ) (by : Move) → IsBack them game ls at i ms row → k + 1 + i ≡ length them.rows → ms' ≡ ms ++ by ∷ [] →
    from < length them.rows → step them from by ≡ row → 0 < best_at ls k from → best_at ls (k + 1) row ≡ best_at ls k from + gain them game from by → IsBack them game ls at (i + 1) ms' from
back_more them game ls at i ms ms' row from k by b e p inside leads some value =
    let r : reverse ms' ≡ by ∷ reverse ms = ap reverse p ∙ reverse-append ms (by ∷ []) in
    let k₁ : length them.rows - i ≡ k + 1 = omega arith in
    let k₀ : length them.rows - (i + 1) ≡ k = omega arith in
    let s : best_at ls (k + 1) row + led_points them game row (reverse ms) ≡ best_at ls (length them.rows) at = ap (λ k. best_at ls k row + led_points them game row (reverse ms)) (sym k₁) ∙ b.scores in
    let t : led_points them game from (by ∷ reverse ms) ≡ gain them game from by + led_points them game row (reverse ms) = ap (λ v. gain them game from by + led_points them game v (reverse ms)) leads in
    record {
      size = ap length p ∙ length-append ms (by ∷ []) ∙ ap (λ n. n + 1) b.size;
      inside = inside;
      some = rw k₀ some;
      leads = ap (led them from) r ∙ ap (λ v. led them v (reverse ms)) leads ∙ b.leads;
      scores = ap (λ k. best_at ls k from + led_points them game from (reverse ms')) k₀ ∙ ap (λ xs. best_at ls k from + led_points them game from xs) r ∙ ap (λ x. best_at ls k from + x) t ∙ omega (arith, s, value);
    }

pub back_first : (them : Automaton) (game : Payoffs) (ls : List (List ℕ)) (at : ℕ) → at < length them.rows → 0 < best_at ls (length them.rows) at → IsBack them game ls at 0 [] at
back_first them game ls at inside some =
    let z : length them.rows - 0 ≡ length them.rows = omega arith in
    record {
      size = refl;
      inside = inside;
      some = rw z some;
      leads = refl;
      scores = ap (λ k. best_at ls k at + 0) z ∙ omega arith;
    }

pub back_full : (them : Automaton) (game : Payoffs) → IsAutomaton them → (ls : List (List ℕ)) → IsTable them game ls → (at : ℕ) (ms : List Move) (row : ℕ) → IsBack them game ls at (length them.rows) ms row → IsFull them game ls at (reverse ms)
back_full them game ok ls table at ms row b =
    let z : length them.rows - length them.rows ≡ 0 = omega arith in
    let some : 0 < best_at ls 0 row = subst (λ k. 0 < best_at ls k row) z b.some in
    let w = (best_is them game ls table 0 row (omega arith) b.inside).made some in
    let f = by_moves w.moves w.size w.leads w.scores in
    let s : best_at ls 0 row + led_points them game row (reverse ms) ≡ best_at ls (length them.rows) at = ap (λ k. best_at ls k row + led_points them game row (reverse ms)) (sym z) ∙ b.scores in
    let t : led_points them game row (reverse ms) ≡ led_points them game them.start (reverse ms) = ap (λ v. led_points them game v (reverse ms)) f.0 in
    let one : best_at ls 0 row ≡ 1 = f.1 in
    record {
      size = length-reverse ms ∙ b.size;
      leads = ap (λ v. led them v (reverse ms)) (sym f.0) ∙ b.leads;
      scores = omega (arith, s, t, one);
    }
  where
    by_moves : (xs : List Move) → length xs ≡ 0 → led them them.start xs ≡ row → led_points them game them.start xs + 1 ≡ best_at ls 0 row → (row ≡ them.start) × (best_at ls 0 row ≡ 1)
    by_moves [] e l s = (sym l, sym s)
    by_moves (m ∷ xs) e l s = absurd (omega arith)
