-- The turn in a walk of R moves to the peak's row has the greatest mean.
use Rattle.std.proofs.Common.{ℕ, ◌+◌, ◌-◌, ◌*◌, ◌≡◌, ◌≤◌, ◌<◌, List, ◌++◌, length, take, drop, refl, sym, ap, ◌∙◌, subst, arith, slice_index_or, slice_range, ℤ, Option, Some, None, length-append, length-drop}
use Rattle.std.proofs.lemmas.Int.{ints}
use Rattle.std.proofs.lemmas.List.{take-append-drop, length-take-le}
use Rattle.std.proofs.Math.Seq.{take-add}
use Rattle.std.proofs.Math.Nat.{mul-le-mul_right}
use Rattle.history_model.specs.declared.moves.Move.{Move}
use Rattle.history_model.specs.Game.{Payoffs}
use Rattle.history_model.specs.Automaton.{Automaton, IsAutomaton}
use Rattle.history_model.specs.Mean.{led}
use Rattle.strategy_trees.specs.Lassos.{led_points}
use Rattle.mean_response.specs.Walks.{best_at, IsTable, IsPeak, HasPotential, IsHighest, IsTurned}
use Rattle.mean_response.specs.Turns.{IsFull, IsTurn}
use Rattle.mean_response.proofs.Walking.{led-append, led_points-append, led-inside, without, without-length}
use Rattle.mean_response.proofs.Ratios.{best_is, ratio_trans}

-- the peak in lowest terms
pub peak_lowest : (ls : List (List ℕ)) (r at num₀ den₀ num den : ℕ) → IsPeak ls r at num₀ den₀ → 0 < den → num₀ * den ≡ num * den₀ → IsPeak ls r at num den
peak_lowest ls r at num₀ den₀ num den p positive same = record {
  inside = p.inside;
  some = p.some;
  least = λ k h some. ratio_trans num den num₀ den₀ (best_at ls r at - best_at ls k at) (r - k) p.positive (omega (arith, same)) (p.least k h some);
  caps = λ v h some. (let c = p.caps v h some in record {
    at = c.at;
    below = c.below;
    some = c.some;
    capped = ratio_trans (best_at ls r v - best_at ls c.at v) (r - c.at) num₀ den₀ num den p.positive c.capped (omega (arith, same));
  });
  positive = positive;
}

-- a cycle from a row with a potential gains nothing
pub gains_nothing : (them : Automaton) (game : Payoffs) (num den v : ℕ) (cycle : List Move) (h : ℤ) → led them v cycle ≡ v → IsHighest them game num den v h → den * led_points them game v cycle ≤ num * length cycle
gains_nothing them game num den v cycle h back p =
    let a = p.attained in
    let leads : led them them.start (a.moves ++ cycle) ≡ v = led-append them them.start a.moves cycle ∙ ap (λ v. led them v cycle) a.leads ∙ back in
    let up = p.above (a.moves ++ cycle) leads in
    let s : led_points them game them.start (a.moves ++ cycle) ≡ led_points them game them.start a.moves + led_points them game v cycle = led_points-append them game them.start a.moves cycle ∙ ap (λ v. led_points them game them.start a.moves + led_points them game v cycle) a.leads in
    let s2 : den * led_points them game them.start (a.moves ++ cycle) ≡ den * (led_points them game them.start a.moves + led_points them game v cycle) = ap (λ x. den * x) s in
    let n : num * length (a.moves ++ cycle) ≡ num * (length a.moves + length cycle) = ap (λ x. num * x) (length-append a.moves cycle) in
    let e = a.value in
    omega (arith, ints, up, s2, n, e)

gains_nothing_at : (them : Automaton) (game : Payoffs) (num den v : ℕ) (cycle ms : List Move) (o : Option ℤ) → led them v cycle ≡ v → led them them.start ms ≡ v → HasPotential them game num den v o → den * led_points them game v cycle ≤ num * length cycle
gains_nothing_at them game num den v cycle ms None back leads p = absurd (p ms leads)
gains_nothing_at them game num den v cycle ms (Some h) back leads p = gains_nothing them game num den v cycle h back p

at_least : (best best' s₁ s₂ s₃ num den n : ℕ) → s₁ + s₂ + s₃ + 1 ≡ best → s₁ + s₃ < best' → num * n ≤ (best - best') * den → num * n ≤ den * s₂
at_least best best' s₁ s₂ s₃ num den n e h k =
    let less : best - best' ≤ s₂ = omega arith in
    omega (arith, k, mul-le-mul_right den less)

pub lasso : (them : Automaton) (game : Payoffs) → IsAutomaton them → (ls : List (List ℕ)) → IsTable them game ls → (at num den : ℕ) → IsPeak ls (length them.rows) at num den → (ms : List Move) → IsFull them game ls at ms → (i j : ℕ) → IsTurn them ms i j →
    (potentials : List (Option ℤ)) → ((v : ℕ) (d : Option ℤ) → v < length them.rows → HasPotential them game num den v (slice_index_or potentials v d)) →
    IsTurned them game num den (take i ms) (slice_range ms i j)
lasso them game ok ls table at num den peak ms full i j turn potentials each =
    let n = length them.rows in
    let path = take i ms in
    let cycle = slice_range ms i j in
    let w = led them them.start path in
    let order : i < j = turn.order in
    let within : j ≤ length ms = turn.inside in
    let size : length ms ≡ n = full.size in
    let path_size : length path ≡ i = length-take-le i ms (omega arith) in
    let rest_size : length (drop i ms) ≡ length ms - i = length-drop i ms in
    let cycle_size : length cycle ≡ j - i = length-take-le (j - i) (drop i ms) (omega arith) in
    let upto : take j ms ≡ path ++ cycle = ap (λ k. take k ms) (let x : j ≡ i + (j - i) = omega arith in x) ∙ take-add i (j - i) ms in
    let there : led them w cycle ≡ led them them.start (take j ms) = sym (led-append them them.start path cycle) ∙ ap (led them them.start) (sym upto) in
    let back : led them w cycle ≡ w = there ∙ sym turn.same in
    let count = i + (length ms - j) in
    let s₁ = led_points them game them.start path in
    let s₂ = led_points them game w cycle in
    let s₃ = led_points them game w (drop j ms) in
    let end : led them them.start (take j ms) ≡ w = sym turn.same in
    let whole : led_points them game them.start ms ≡ s₁ + s₂ + s₃ =
    (let a : led_points them game them.start ms ≡ led_points them game them.start (take j ms) + led_points them game (led them them.start (take j ms)) (drop j ms) = ap (led_points them game them.start) (sym (take-append-drop j ms)) ∙ led_points-append them game them.start (take j ms) (drop j ms) in
    let b : led_points them game them.start (take j ms) ≡ s₁ + s₂ = ap (led_points them game them.start) upto ∙ led_points-append them game them.start path cycle in
    let c : led_points them game (led them them.start (take j ms)) (drop j ms) ≡ s₃ = ap (λ v. led_points them game v (drop j ms)) end in
    a ∙ ap (λ x. x + led_points them game (led them them.start (take j ms)) (drop j ms)) b ∙ ap (λ x. s₁ + s₂ + x) c) in
    let less : count < n = omega arith in
    let short : led_points them game them.start (path ++ drop j ms) < best_at ls count at =
    (best_is them game ls table count at (omega arith) peak.inside).upper (path ++ drop j ms) (without-length ms i j (omega arith) within) (without them ms i j turn.same ∙ full.leads) in
    let short_score : led_points them game them.start (path ++ drop j ms) ≡ s₁ + s₃ = led_points-append them game them.start path (drop j ms) in
    let low : num * (n - count) ≤ (best_at ls n at - best_at ls count at) * den = peak.least count less (omega arith) in
    let run : n - count ≡ j - i = omega arith in
    let low2 : num * (j - i) ≤ (best_at ls n at - best_at ls count at) * den = subst (λ r. num * r ≤ (best_at ls n at - best_at ls count at) * den) run low in
    let total : s₁ + s₂ + s₃ + 1 ≡ best_at ls n at = ap (λ x. x + 1) (sym whole) ∙ full.scores in
    let shorter : s₁ + s₃ < best_at ls count at = rw (← short_score) short in
    let more : num * (j - i) ≤ den * s₂ = at_least (best_at ls n at) (best_at ls count at) s₁ s₂ s₃ num den (j - i) total shorter low2 in
    let most : den * s₂ ≤ num * length cycle = gains_nothing_at them game num den w cycle path (slice_index_or potentials w None) back refl (each w None (led-inside them ok them.start path ok.started)) in
    let sized : num * length cycle ≡ num * (j - i) = ap (λ x. num * x) cycle_size in
    record {
      some = rw cycle_size (omega arith);
      short = rw (path_size, cycle_size) (omega arith);
      returns = back;
      mean = omega (arith, more, most, sized);
    }
