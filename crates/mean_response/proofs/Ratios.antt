-- Fractions compared by products, and the table's rows cut short.
use Rattle.std.proofs.Common.{ℕ, zero, suc, ◌+◌, ◌-◌, ◌*◌, ◌%◌, ◌^◌, ◌≡◌, ◌≤◌, ◌<◌, List, [], ◌∷◌, ◌++◌, length, refl, sym, ap, ◌∙◌, subst, arith, inl, inr, length-append}
use Rattle.std.proofs.lemmas.Bool.{cases_lt}
use Rattle.std.proofs.Math.Nat.{mul-le-mul_right, le_of_mul-le-mul_right, dvd-mul_left}
use Rattle.std.proofs.lemmas.Nat.Gcd.{mod-eq-zero_of_dvd}
use Rattle.history_model.specs.declared.moves.Move.{Move}
use Rattle.history_model.specs.Game.{Payoffs}
use Rattle.history_model.specs.Automaton.{Automaton, IsAutomaton}
use Rattle.history_model.specs.Mean.{step, led}
use Rattle.strategy_trees.specs.Lassos.{led_points}
use Rattle.mean_response.specs.Walks.{gain, IsBest, IsTable, best_at, IsReached, IsRise, IsLeast, IsCapped, IsLowest}
use Rattle.mean_response.proofs.Walking.{led-append, led_points-append, led-inside, step-inside, cut, parted}

-- a / b is at most num / den, and num / den at most c / d
pub ratio_trans : (a b num den c d : ℕ) → 0 < den → a * den ≤ num * b → num * d ≤ c * den → a * d ≤ c * b
ratio_trans a b num den c d positive h j =
    let x : a * den * d ≤ num * b * d = mul-le-mul_right d h in
    let y : num * d * b ≤ c * den * b = mul-le-mul_right b j in
    let z : a * d * den ≤ c * b * den = omega (arith, x, y) in
    le_of_mul-le-mul_right z positive

pub best_is : (them : Automaton) (game : Payoffs) (ls : List (List ℕ)) → IsTable them game ls → (k v : ℕ) → k ≤ length them.rows → v < length them.rows → IsBest them game k v (best_at ls k v)
best_is them game ls t k v h inside = (t.each k (let s : length ls ≡ length them.rows + 1 = t.size in omega arith)).each v inside

-- a walk of R moves leads also in fewer moves to its row
pub shorter : (them : Automaton) (game : Payoffs) → IsAutomaton them → (ls : List (List ℕ)) → IsTable them game ls → (v : ℕ) → v < length them.rows → 0 < best_at ls (length them.rows) v →
    (k : ℕ) × (k < length them.rows) × (0 < best_at ls k v)
shorter them game ok ls t v inside positive =
    let w = (best_is them game ls t (length them.rows) v (omega arith) inside).made positive in
    let c = cut them game ok w.moves w.size in
    let b : led_points them game them.start c.moves < best_at ls c.count v = (best_is them game ls t c.count v (let l = c.fewer in omega arith) inside).upper c.moves c.size (c.leads ∙ w.leads) in
    (c.count, c.fewer, omega arith)

-- the least rise over the first k layers
pub record IsSteep (ls : List (List ℕ)) (r v k num den : ℕ) : Type 0 where
  pub num_bound : num ≤ 10 ^ 9
  pub den_bound : den ≤ r
  pub least : (j : ℕ) → j < k → 0 < best_at ls j v → num * (r - j) ≤ (best_at ls r v - best_at ls j v) * den
  pub made : 0 < den → IsRise ls r v num den
  pub none : den ≡ 0 → num ≡ 1

pub steep_replace : (ls : List (List ℕ)) (r v k num den rise run : ℕ) → IsSteep ls r v k num den → k < r → 0 < best_at ls k v → rise ≡ best_at ls r v - best_at ls k v → run ≡ r - k →
    rise * den < num * run → rise ≤ 10 ^ 9 → run ≤ r → IsSteep ls r v (k + 1) rise run
steep_replace ls r v k num den rise run s inside some e₁ e₂ less b₁ b₂ = record {
  num_bound = b₁;
  den_bound = b₂;
  least = λ j h here. elim (cases_lt j k) [
    | inl l ↦ old j l here
    | inr l ↦ (let e : j ≡ k = omega arith in subst (λ j. rise * (r - j) ≤ (best_at ls r v - best_at ls j v) * run) (sym e) (rw (e₁, e₂) (omega arith)))
  ];
  made = λ _. record { at = k; below = inside; some = some; rise = e₁; run = e₂ };
  none = λ z. absurd (omega arith);
}
  where
    old : (j : ℕ) → j < k → 0 < best_at ls j v → rise * (r - j) ≤ (best_at ls r v - best_at ls j v) * run
    old j h here = elim (cases_lt 0 den) [
      | inl l ↦ ratio_trans rise run num den (best_at ls r v - best_at ls j v) (r - j) l (omega arith) (s.least j h here)
      | inr l ↦ (let z : den ≡ 0 = omega arith in
          let one : num ≡ 1 = s.none z in
          let m : num * (r - j) ≤ (best_at ls r v - best_at ls j v) * den = s.least j h here in
          let m2 : 1 * (r - j) ≤ (best_at ls r v - best_at ls j v) * 0 = rw (one, z) at m in
          absurd (omega arith))
    ]

pub steep_keep : (ls : List (List ℕ)) (r v k num den rise run : ℕ) → IsSteep ls r v k num den → rise ≡ best_at ls r v - best_at ls k v → run ≡ r - k →
    num * run ≤ rise * den → IsSteep ls r v (k + 1) num den
steep_keep ls r v k num den rise run s e₁ e₂ less = record {
  num_bound = s.num_bound;
  den_bound = s.den_bound;
  least = λ j h here. elim (cases_lt j k) [
    | inl l ↦ s.least j l here
    | inr l ↦ (let e : j ≡ k = omega arith in subst (λ j. num * (r - j) ≤ (best_at ls r v - best_at ls j v) * den) (sym e) (rw (← e₁, ← e₂) less))
  ];
  made = s.made;
  none = s.none;
}

pub steep_skip : (ls : List (List ℕ)) (r v k num den : ℕ) → IsSteep ls r v k num den → best_at ls k v ≤ 0 → IsSteep ls r v (k + 1) num den
steep_skip ls r v k num den s z = record {
  num_bound = s.num_bound;
  den_bound = s.den_bound;
  least = λ j h here. elim (cases_lt j k) [
    | inl l ↦ s.least j l here
    | inr l ↦ (let e : j ≡ k = omega arith in let y : best_at ls j v ≤ 0 = subst (λ j. best_at ls j v ≤ 0) (sym e) z in absurd (omega arith))
  ];
  made = s.made;
  none = s.none;
}

pub steep_made : (ls : List (List ℕ)) (r v num den k : ℕ) → k < r → 0 < best_at ls k v → IsSteep ls r v r num den → IsRise ls r v num den
steep_made ls r v num den k h here s = elim (cases_lt 0 den) [
  | inl l ↦ s.made l
  | inr l ↦ (let z : den ≡ 0 = omega arith in
      let one : num ≡ 1 = s.none z in
      let m : num * (r - k) ≤ (best_at ls r v - best_at ls k v) * den = s.least k h here in
      let m2 : 1 * (r - k) ≤ (best_at ls r v - best_at ls k v) * 0 = rw (one, z) at m in
      absurd (omega arith))
]

-- the greatest of the least rises, over the first n rows
pub record IsTop (ls : List (List ℕ)) (r n at num den : ℕ) : Type 0 where
  pub num_bound : num ≤ 10 ^ 9
  pub den_bound : den ≤ r
  pub positive : 0 < den
  pub inside : at < r
  pub some : 0 < best_at ls r at
  pub least : IsLeast ls r at num den
  pub caps : (v : ℕ) → v < n → 0 < best_at ls r v → IsCapped ls r v num den

pub top_replace : (ls : List (List ℕ)) (r v at num den num' den' : ℕ) → IsTop ls r v at num den → v < r → 0 < best_at ls r v → IsLeast ls r v num' den' → IsRise ls r v num' den' →
    num * den' < num' * den → num' ≤ 10 ^ 9 → den' ≤ r → IsTop ls r (v + 1) v num' den'
top_replace ls r v at num den num' den' t inside some least rise less b₁ b₂ = record {
  num_bound = b₁;
  den_bound = b₂;
  positive = (let l : rise.at < r = rise.below in let e : den' ≡ r - rise.at = rise.run in omega arith);
  inside = inside;
  some = some;
  least = least;
  caps = λ w h here. elim (cases_lt w v) [
    | inl l ↦ (let c = t.caps w l here in record {
      at = c.at;
      below = c.below;
      some = c.some;
      capped = ratio_trans (best_at ls r w - best_at ls c.at w) (r - c.at) num den num' den' t.positive c.capped (omega arith);
    })
    | inr l ↦ (let e : w ≡ v = omega arith in subst (λ w. IsCapped ls r w num' den') (sym e) (record { at = rise.at; below = rise.below; some = rise.some; capped = rw (rise.rise, rise.run) (omega arith) }))
  ];
}

pub top_keep : (ls : List (List ℕ)) (r v at num den num' den' : ℕ) → IsTop ls r v at num den → IsRise ls r v num' den' → num' * den ≤ num * den' → IsTop ls r (v + 1) at num den
top_keep ls r v at num den num' den' t rise less = record {
  num_bound = t.num_bound;
  den_bound = t.den_bound;
  positive = t.positive;
  inside = t.inside;
  some = t.some;
  least = t.least;
  caps = λ w h here. elim (cases_lt w v) [
    | inl l ↦ t.caps w l here
    | inr l ↦ (let e : w ≡ v = omega arith in subst (λ w. IsCapped ls r w num den) (sym e) (record { at = rise.at; below = rise.below; some = rise.some; capped = rw (← rise.rise, ← rise.run) less }))
  ];
}

pub top_skip : (ls : List (List ℕ)) (r v at num den : ℕ) → IsTop ls r v at num den → best_at ls r v ≤ 0 → IsTop ls r (v + 1) at num den
top_skip ls r v at num den t z = record {
  num_bound = t.num_bound;
  den_bound = t.den_bound;
  positive = t.positive;
  inside = t.inside;
  some = t.some;
  least = t.least;
  caps = λ w h here. elim (cases_lt w v) [
    | inl l ↦ t.caps w l here
    | inr l ↦ (let e : w ≡ v = omega arith in let y : best_at ls r w ≤ 0 = subst (λ w. best_at ls r w ≤ 0) (sym e) z in absurd (omega arith))
  ];
}

pub top_first : (them : Automaton) (game : Payoffs) (ls : List (List ℕ)) → IsTable them game ls → (at : ℕ) → at < length them.rows → IsReached them (length them.rows) at → IsTop ls (length them.rows) 0 at 0 1
top_first them game ls t at inside reached = record {
  num_bound = omega arith;
  den_bound = omega arith;
  positive = omega arith;
  inside = inside;
  some = (let u = (best_is them game ls t (length them.rows) at (omega arith) inside).upper reached.moves reached.size reached.leads in omega arith);
  least = λ k h here. omega arith;
  caps = λ v h here. absurd (omega arith);
}

cancel : (a b k : ℕ) → 0 < k → a * k ≡ b * k → a ≡ b
cancel a b k positive e =
    let h : a * k ≤ b * k = omega (arith, e) in
    let j : b * k ≤ a * k = omega (arith, e) in
    let h2 : a ≤ b = le_of_mul-le-mul_right h positive in
    let j2 : b ≤ a = le_of_mul-le-mul_right j positive in
    omega arith

-- the least denominator is in lowest terms
pub least_lowest : (num den q d : ℕ) → 0 < d → 0 < den → q * den ≡ num * d → ((k : ℕ) → 0 < k → k < d → (num * k) % den ≡ 0 → ⊥) → IsLowest q d
least_lowest num den q d positive some same none = record {
  positive = positive;
  lowest = λ e a b ha hb. by_size e a b ha hb;
}
  where
    by_size : (e a b : ℕ) → q ≡ e * a → d ≡ e * b → e ≡ 1
    by_size zero a b ha hb = absurd (omega arith)
    by_size (suc zero) a b ha hb = refl
    by_size (suc (suc e)) a b ha hb =
        let b_some : 0 < b = elim (cases_lt 0 b) [ inl l ↦ l | inr l ↦ (let z : b ≡ 0 = omega arith in let y : d ≡ suc (suc e) * 0 = hb ∙ ap (λ b. suc (suc e) * b) z in absurd (omega arith)) ] in
        let fewer : b < d = omega arith in
        let s : suc (suc e) * a * den ≡ num * (suc (suc e) * b) = ap (λ x. x * den) (sym ha) ∙ same ∙ ap (λ x. num * x) hb in
        let c : num * b ≡ a * den = cancel (num * b) (a * den) (suc (suc e)) (omega arith) (omega (arith, s)) in
        absurd (none b b_some fewer (ap (λ x. x % den) c ∙ mod-eq-zero_of_dvd den (dvd-mul_left den a)))

pub best_step : (them : Automaton) (game : Payoffs) → IsAutomaton them → (ls : List (List ℕ)) → IsTable them game ls → (k v : ℕ) (m : Move) → k < length them.rows → v < length them.rows → 0 < best_at ls k v → best_at ls k v + gain them game v m ≤ best_at ls (k + 1) (step them v m)
best_step them game ok ls table k v m h inside some =
    let w = (best_is them game ls table k v (omega arith) inside).made some in
    let u = (best_is them game ls table (k + 1) (step them v m) (omega arith) (step-inside them ok v m inside)).upper (w.moves ++ m ∷ [])
    (length-append w.moves (m ∷ []) ∙ ap (λ n. n + 1) w.size) (led-append them them.start w.moves (m ∷ []) ∙ ap (λ v. step them v m) w.leads) in
    let s : led_points them game them.start (w.moves ++ m ∷ []) ≡ led_points them game them.start w.moves + (gain them game (led them them.start w.moves) m + 0) = led_points-append them game them.start w.moves (m ∷ []) in
    let t : gain them game (led them them.start w.moves) m ≡ gain them game v m = ap (λ v. gain them game v m) w.leads in
    omega (arith, w.scores, s, t, u)

-- an edge into row u from the layer below
pub record EdgeIn (them : Automaton) (game : Payoffs) (ls : List (List ℕ)) (k u : ℕ) : Type 0 where
  pub from : ℕ
  pub by : Move
  pub inside : from < length them.rows
  pub leads : step them from by ≡ u
  pub some : 0 < best_at ls k from
  pub value : best_at ls (k + 1) u ≡ best_at ls k from + gain them game from by

pub edge_in : (them : Automaton) (game : Payoffs) → IsAutomaton them → (ls : List (List ℕ)) → IsTable them game ls → (k u : ℕ) → k < length them.rows → u < length them.rows → 0 < best_at ls (k + 1) u → EdgeIn them game ls k u
edge_in them game ok ls table k u h inside some =
    let w = (best_is them game ls table (k + 1) u (omega arith) inside).made some in
    by_moves w.moves w.size w.leads w.scores
  where
    by_moves : (ms : List Move) → length ms ≡ k + 1 → led them them.start ms ≡ u → led_points them game them.start ms + 1 ≡ best_at ls (k + 1) u → EdgeIn them game ls k u
    by_moves [] size leads scores = absurd (omega arith)
    by_moves (m ∷ ms) size leads scores =
        let p = parted m ms in
        let v = led them them.start p.front in
        let count : length (m ∷ ms) ≡ length p.front + 1 = ap length p.whole ∙ length-append p.front (p.last ∷ []) in
        let count' : length p.front ≡ k = omega arith in
        let v_inside : v < length them.rows = led-inside them ok them.start p.front ok.started in
        let b : led_points them game them.start p.front < best_at ls k v = (best_is them game ls table k v (omega arith) v_inside).upper p.front count' refl in
        let to : step them v p.last ≡ u = sym (led-append them them.start p.front (p.last ∷ [])) ∙ ap (led them them.start) (sym p.whole) ∙ leads in
        let s : led_points them game them.start (m ∷ ms) ≡ led_points them game them.start p.front + (gain them game v p.last + 0) = ap (led_points them game them.start) p.whole ∙ led_points-append them game them.start p.front (p.last ∷ []) in
        let up : best_at ls k v + gain them game v p.last ≤ best_at ls (k + 1) u = subst (λ u. best_at ls k v + gain them game v p.last ≤ best_at ls (k + 1) u) to (best_step them game ok ls table k v p.last h v_inside (omega arith)) in
        record { from = v; by = p.last; inside = v_inside; leads = to; some = omega arith; value = omega (arith, scores, s, up, b) }
