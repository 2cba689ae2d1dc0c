-- Heights: greatest over all walks, where no rise is above the mean.
use Rattle.std.proofs.Common.{ℕ, zero, suc, ◌+◌, ◌-◌, ◌*◌, ◌^◌, ◌≡◌, ◌≤◌, ◌<◌, List, [], ◌∷◌, ◌++◌, length, refl, sym, ap, ◌∙◌, subst, arith, inl, inr, slice_index, ℤ, pos, ◌-ℤ◌, Option, Some, None, slice_index_or}
use Rattle.std.proofs.lemmas.Int.{ints}
use Rattle.std.proofs.lemmas.Bool.{cases_lt}
use Rattle.std.proofs.lemmas.List.{get_or_append_left, get_or_push}
use Rattle.std.proofs.Math.Nat.{mul-le-mul_left, mul-le-mul_right}
use Rattle.history_model.specs.declared.moves.Move.{Move}
use Rattle.history_model.specs.Game.{Payoffs}
use Rattle.history_model.specs.Automaton.{Automaton, IsAutomaton}
use Rattle.history_model.specs.Mean.{step, led}
use Rattle.strategy_trees.specs.Lassos.{led_points}
use Rattle.mean_response.specs.Walks.{gain, IsTable, best_at, IsPeak, IsHeight, IsHeightAt, HasPotential}
use Rattle.mean_response.specs.Raised.{IsRaised}
use Rattle.mean_response.proofs.Walking.{step-inside}
use Rattle.mean_response.proofs.Ratios.{best_is, best_step}

pub record IsHigh (ls : List (List ℕ)) (r num den v k h : ℕ) : Type 0 where
  pub bound : h ≤ 10 ^ 13
  pub above : (j : ℕ) → j < k → 0 < best_at ls j v → best_at ls j v * den + num * (r - j) ≤ h
  pub made : 0 < h → IsHeightAt ls r num den v h

pub high_take : (ls : List (List ℕ)) (r num den v k h x : ℕ) → IsHigh ls r num den v k h → k < r → 0 < best_at ls k v → x ≡ best_at ls k v * den + num * (r - k) → h ≤ x → x ≤ 10 ^ 13 → IsHigh ls r num den v (k + 1) x
high_take ls r num den v k h x s inside some e less b = record {
  bound = b;
  above = λ j l here. elim (cases_lt j k) [
    | inl m ↦ (let a = s.above j m here in omega arith)
    | inr m ↦ (let i : j ≡ k = omega arith in subst (λ j. best_at ls j v * den + num * (r - j) ≤ x) (sym i) (rw e (omega arith)))
  ];
  made = λ _. record { at = k; below = inside; some = some; value = e };
}

pub high_keep : (ls : List (List ℕ)) (r num den v k h x : ℕ) → IsHigh ls r num den v k h → x ≡ best_at ls k v * den + num * (r - k) → x ≤ h → IsHigh ls r num den v (k + 1) h
high_keep ls r num den v k h x s e less = record {
  bound = s.bound;
  above = λ j l here. elim (cases_lt j k) [
    | inl m ↦ s.above j m here
    | inr m ↦ (let i : j ≡ k = omega arith in subst (λ j. best_at ls j v * den + num * (r - j) ≤ h) (sym i) (rw (← e) less))
  ];
  made = s.made;
}

pub high_skip : (ls : List (List ℕ)) (r num den v k h : ℕ) → IsHigh ls r num den v k h → best_at ls k v ≤ 0 → IsHigh ls r num den v (k + 1) h
high_skip ls r num den v k h s z = record {
  bound = s.bound;
  above = λ j l here. elim (cases_lt j k) [
    | inl m ↦ s.above j m here
    | inr m ↦ (let i : j ≡ k = omega arith in let y : best_at ls j v ≤ 0 = subst (λ j. best_at ls j v ≤ 0) (sym i) z in absurd (omega arith))
  ];
  made = s.made;
}

pub record IsSafe (num den gain low high : ℕ) : Type 0 where
  pub some : 0 < high
  pub safe : low + den * gain ≤ high + num

pub record IsUp (num den score size low high : ℕ) : Type 0 where
  pub some : 0 < high
  pub up : low + den * score ≤ high + num * size

positive_product : (a b : ℕ) → 0 < a → 0 < b → 0 < a * b
positive_product (suc a) (suc b) h k = omega arith
positive_product zero b h k = absurd (omega arith)
positive_product (suc a) zero h k = absurd (omega arith)

-- one edge up: from layer k to layer k + 1
edge_below : (best best' den num gain r k low : ℕ) → low ≡ best * den + num * (r - k) → best + gain ≤ best' → k < r → low + den * gain ≤ best' * den + num * (r - (k + 1)) + num
edge_below best best' den num gain r k low e h i =
    let rest : r - k ≡ (r - (k + 1)) + 1 = omega arith in
    let s : num * (r - k) ≡ num * ((r - (k + 1)) + 1) = ap (λ x. num * x) rest in
    omega (arith, e, s, mul-le-mul_left den h)

-- the last layer is capped by an earlier one
capped_below : (best best' den num run : ℕ) → (best - best') * den ≤ num * run → best * den ≤ best' * den + num * run
capped_below best best' den num run h =
    let split : best ≤ (best - best') + best' = omega arith in
    omega (arith, mul-le-mul_right den split)

module _ (them : Automaton) (game : Payoffs) (ok : IsAutomaton them) (ls : List (List ℕ)) (table : IsTable them game ls) (num den at : ℕ) (peak : IsPeak ls (length them.rows) at num den)
    (height : ℕ → ℕ) (is_height : (v : ℕ) → v < length them.rows → IsHeight ls (length them.rows) num den v (height v)) where
  abbrev rows : ℕ
  rows = length them.rows

  pub safe : (v : ℕ) (m : Move) → v < rows → 0 < height v → IsSafe num den (gain them game v m) (height v) (height (step them v m))
  safe v m inside some =
      let u = step them v m in
      let inside' : u < rows = step-inside them ok v m inside in
      let a = (is_height v inside).made some in
      let b : best_at ls a.at v + gain them game v m ≤ best_at ls (a.at + 1) u = best_step them game ok ls table a.at v m a.below inside a.some in
      let here : 0 < best_at ls (a.at + 1) u = (let s : 0 < best_at ls a.at v = a.some in omega arith) in
      let e : height v + den * gain them game v m ≤ best_at ls (a.at + 1) u * den + num * (rows - (a.at + 1)) + num = edge_below (best_at ls a.at v) (best_at ls (a.at + 1) u) den num (gain them game v m) rows a.at (height v) a.value b a.below in
      let d : 0 < den = peak.positive in
      elim (cases_lt (a.at + 1) rows) [
        | inl l ↦ (let t : best_at ls (a.at + 1) u * den + num * (rows - (a.at + 1)) ≤ height u = (is_height u inside').above (a.at + 1) l here in
            let p : 0 < best_at ls (a.at + 1) u * den = positive_product (best_at ls (a.at + 1) u) den here d in
            record { some = omega arith; safe = omega arith })
        | inr l ↦ (let last : a.at + 1 ≡ rows = (let x : a.at < rows = a.below in omega arith) in
            let here' : 0 < best_at ls rows u = subst (λ k. 0 < best_at ls k u) last here in
            let c = peak.caps u inside' here' in
            let t : best_at ls c.at u * den + num * (rows - c.at) ≤ height u = (is_height u inside').above c.at c.below c.some in
            let p : 0 < best_at ls c.at u * den = positive_product (best_at ls c.at u) den c.some d in
            let q : best_at ls rows u * den ≤ best_at ls c.at u * den + num * (rows - c.at) = capped_below (best_at ls rows u) (best_at ls c.at u) den num (rows - c.at) c.capped in
            let e2 : height v + den * gain them game v m ≤ best_at ls rows u * den + num * (rows - rows) + num = subst (λ k. height v + den * gain them game v m ≤ best_at ls k u * den + num * (rows - k) + num) last e in
            let z : num * (rows - rows) ≡ num * 0 = ap (λ x. num * x) (let y : rows - rows ≡ 0 = omega arith in y) in
            record { some = omega arith; safe = omega (arith, e2, z, q, t) })
      ]

  pub up : (ms : List Move) (v : ℕ) → v < rows → 0 < height v → IsUp num den (led_points them game v ms) (length ms) (height v) (height (led them v ms))
  up [] v inside some = record { some = some; up = omega arith }
  up (m ∷ ms) v inside some =
      let s = safe v m inside some in
      let r = up ms (step them v m) (step-inside them ok v m inside) s.some in
      record { some = r.some; up = omega (arith, s.safe, r.up) }

  start_high : den + num * rows ≤ height them.start
  start_high =
      let b : 0 < best_at ls 0 them.start = (best_is them game ls table 0 them.start (omega arith) ok.started).upper [] refl refl in
      let some : 0 < rows = (let s : them.start < rows = ok.started in omega arith) in
      let t : best_at ls 0 them.start * den + num * (rows - 0) ≤ height them.start = (is_height them.start ok.started).above 0 some b in
      let one : 1 ≤ best_at ls 0 them.start = omega arith in
      let z : num * (rows - 0) ≡ num * rows = ap (λ x. num * x) (let y : rows - 0 ≡ rows = omega arith in y) in
      omega (arith, t, z, mul-le-mul_right den one)

  pub reach : (ms : List Move) (v : ℕ) → led them them.start ms ≡ v → IsUp num den (led_points them game them.start ms) (length ms) (den + num * rows) (height v)
  reach ms v e =
      let h = start_high in
      let d : 0 < den = peak.positive in
      let u : IsUp num den (led_points them game them.start ms) (length ms) (height them.start) (height v) = subst (λ v. IsUp num den (led_points them game them.start ms) (length ms) (height them.start) (height v)) e (up ms them.start ok.started (omega arith)) in
      record { some = u.some; up = (let x = u.up in omega arith) }

  attained_at : (best score den num k r h : ℕ) → score + 1 ≡ best → k < r → h ≡ best * den + num * (r - k) → h + num * k ≡ den * score + (den + num * r)
  attained_at best score den num k r h e i v =
      let s : r - k + k ≡ r = omega arith in
      let t : num * (r - k + k) ≡ num * r = ap (λ x. num * x) s in
      let w : (score + 1) * den ≡ best * den = ap (λ x. x * den) e in
      omega (arith, t, w, v)

  pub potential : (v : ℕ) (o : Option ℤ) → v < rows → height v ≤ 10 ^ 13 → den + num * rows ≤ 10 ^ 13 → IsRaised (height v) (den + num * rows) o → HasPotential them game num den v o
  potential v None inside b b' zeros = λ ms e. (let u = (reach ms v e).some in absurd (omega arith))
  potential v (Some h) inside b b' r =
      let a = (is_height v inside).made r.0 in
      let w = (best_is them game ls table a.at v (let l = a.below in omega arith) inside).made a.some in
      let t : height v + num * a.at ≡ den * led_points them game them.start w.moves + (den + num * rows) = attained_at (best_at ls a.at v) (led_points them game them.start w.moves) den num a.at rows (height v) w.scores a.below a.value in
      let s : num * length w.moves ≡ num * a.at = ap (λ x. num * x) w.size in
      let e : h ≡ pos (height v) -ℤ pos (den + num * rows) = r.1 in
      record {
        above = λ ms l. (let u = (reach ms v l).up in omega (arith, ints, u, e));
        attained = record { moves = w.moves; leads = w.leads; value = omega (arith, ints, t, s, e) };
        low = omega (arith, ints, e);
        high = omega (arith, ints, e);
      }

-- what holds of each element holds after a push
pub pushed : (P : ℕ → Option ℤ → Type 0) (xs : List (Option ℤ)) (n : ℕ) (x : Option ℤ) → length xs ≡ n → ((v : ℕ) (d : Option ℤ) → v < n → P v (slice_index_or xs v d)) → P n x →
    (v : ℕ) (d : Option ℤ) → v < n + 1 → P v (slice_index_or (xs ++ x ∷ []) v d)
pushed P xs n x size old new v d h = elim (cases_lt v n) [
  | inl l ↦ (let e : slice_index_or (xs ++ x ∷ []) v d ≡ slice_index_or xs v d = get_or_append_left xs (x ∷ []) d v (omega arith) in rw e (old v d l))
  | inr l ↦ (let s : v ≡ n = omega arith in let e : slice_index_or (xs ++ x ∷ []) v d ≡ x = get_or_push xs x d v (size ∙ sym s) in rw e (subst (λ v. P v x) (sym s) new))
]

pub pushed_number : (P : ℕ → ℕ → Type 0) (xs : List ℕ) (n x : ℕ) → length xs ≡ n → ((v : ℕ) → v < n → P v (slice_index xs v)) → P n x → (v : ℕ) → v < n + 1 → P v (slice_index (xs ++ x ∷ []) v)
pushed_number P xs n x size old new v h = elim (cases_lt v n) [
  | inl l ↦ (let e : slice_index (xs ++ x ∷ []) v ≡ slice_index xs v = get_or_append_left xs (x ∷ []) 0 v (omega arith) in rw e (old v l))
  | inr l ↦ (let s : v ≡ n = omega arith in let e : slice_index (xs ++ x ∷ []) v ≡ x = get_or_push xs x 0 v (size ∙ sym s) in rw e (subst (λ v. P v x) (sym s) new))
]
