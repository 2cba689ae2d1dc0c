-- Walks: append, layers of greatest scores, and walks cut short.
use Rattle.std.proofs.Common.{ℕ, ◌+◌, ◌-◌, ◌^◌, ◌≡◌, ◌≤◌, ◌<◌, List, [], ◌∷◌, ◌++◌, length, take, drop, refl, sym, ap, ◌∙◌, subst, arith, slice_index, length-append, length-drop}
use Rattle.std.proofs.lemmas.List.{take-append-drop, length-take-le}
use Rattle.history_model.specs.declared.moves.Move.{Move}
use Rattle.history_model.specs.declared.moves.Move.TheVariants.{C, D}
use Rattle.history_model.specs.Game.{Payoffs, IsGame, pay}
use Rattle.history_model.specs.Automaton.{Automaton, IsAutomaton}
use Rattle.history_model.specs.Path.{sure_move}
use Rattle.history_model.specs.Mean.{step, led}
use Rattle.strategy_trees.specs.Lassos.{led_points}
use Rattle.mean_response.specs.Walks.{gain, HasWalk, IsLayer, IsPart}
use Rattle.mean_response.proofs.Pigeon.{Repeats, pigeon}

pub led-append : (them : Automaton) (k : ℕ) (xs ys : List Move) → led them k (xs ++ ys) ≡ led them (led them k xs) ys
led-append them k [] ys = refl
led-append them k (m ∷ xs) ys = led-append them (step them k m) xs ys

pub led_points-append : (them : Automaton) (game : Payoffs) (k : ℕ) (xs ys : List Move) → led_points them game k (xs ++ ys) ≡ led_points them game k xs + led_points them game (led them k xs) ys
led_points-append them game k [] ys = omega arith
led_points-append them game k (m ∷ xs) ys = omega (arith, led_points-append them game (step them k m) xs ys)

pub step-inside : (them : Automaton) → IsAutomaton them → (k : ℕ) (m : Move) → k < length them.rows → step them k m < length them.rows
step-inside them ok k m h = ok.closed k (sure_move them k) m h

pub led-inside : (them : Automaton) → IsAutomaton them → (k : ℕ) (ms : List Move) → k < length them.rows → led them k ms < length them.rows
led-inside them ok k [] h = h
led-inside them ok k (m ∷ ms) h = led-inside them ok (step them k m) ms (step-inside them ok k m h)

pub record Parted (ms : List Move) : Type 0 where
  pub front : List Move
  pub last : Move
  pub whole : ms ≡ front ++ last ∷ []

pub parted : (m : Move) (ms : List Move) → Parted (m ∷ ms)
parted m [] = record { front = []; last = m; whole = refl }
parted m (n ∷ ms) = let r = parted n ms in record { front = m ∷ r.front; last = r.last; whole = ap (λ l. m ∷ l) r.whole }

module _ (them : Automaton) (game : Payoffs) (ok : IsAutomaton them) (k : ℕ) (below above : List ℕ) (layer : IsLayer them game k below) (part : IsPart them game k below (length them.rows) above) where
  -- moves and one more
  longer : (front : List Move) (last : Move) → length front ≡ k → led_points them game them.start (front ++ last ∷ []) < slice_index above (led them them.start (front ++ last ∷ []))
  longer front last e =
      let v = led them them.start front in
      let inside : v < length them.rows = led-inside them ok them.start front ok.started in
      let s : led_points them game them.start front < slice_index below v = (layer.each v inside).upper front e refl in
      let r : slice_index below v + gain them game v last ≤ slice_index above (step them v last) = part.reached v last inside (omega arith) in
      let w : led them them.start (front ++ last ∷ []) ≡ step them v last = led-append them them.start front (last ∷ []) in
      let t : led_points them game them.start (front ++ last ∷ []) ≡ led_points them game them.start front + (gain them game v last + 0) = led_points-append them game them.start front (last ∷ []) in
      rw (w, t) (omega arith)

  upper : (v : ℕ) (ms : List Move) → length ms ≡ k + 1 → led them them.start ms ≡ v → led_points them game them.start ms < slice_index above v
  upper v [] e w = absurd (omega arith)
  upper v (m ∷ ms) e w =
      let p = parted m ms in
      let size : length (m ∷ ms) ≡ length p.front + 1 = ap length p.whole ∙ length-append p.front (p.last ∷ []) in
      let l = longer p.front p.last (omega arith) in
      let l2 : led_points them game them.start (m ∷ ms) < slice_index above (led them them.start (m ∷ ms)) = subst (λ xs. led_points them game them.start xs < slice_index above (led them them.start xs)) (sym p.whole) l in
      subst (λ u. led_points them game them.start (m ∷ ms) < slice_index above u) w l2

  made : (u : ℕ) → u < length them.rows → 0 < slice_index above u → HasWalk them game (k + 1) u (slice_index above u)
  made u h positive =
      let e = part.made u h positive in
      let w = (layer.each e.from e.inside).made e.some in
      record {
        moves = w.moves ++ e.by ∷ [];
        size = length-append w.moves (e.by ∷ []) ∙ ap (λ n. n + 1) w.size;
        leads = led-append them them.start w.moves (e.by ∷ []) ∙ ap (λ v. step them v e.by) w.leads ∙ e.leads;
        scores =
            (let s : led_points them game them.start (w.moves ++ e.by ∷ []) ≡ led_points them game them.start w.moves + (gain them game (led them them.start w.moves) e.by + 0) = led_points-append them game them.start w.moves (e.by ∷ []) in
            let t : gain them game (led them them.start w.moves) e.by ≡ gain them game e.from e.by = ap (λ v. gain them game v e.by) w.leads in
            omega (arith, w.scores, e.value));
      }

  pub next_layer : IsLayer them game (k + 1) above
  next_layer = record {
    size = part.size;
    each = λ v h. record { upper = upper v; made = made v h };
    bound = λ v. (let b = part.bound v in omega arith);
  }

pub gain-few : (them : Automaton) (game : Payoffs) → IsGame game → (k : ℕ) (m : Move) → gain them game k m ≤ 10 ^ 6
gain-few them game ok k m = by_moves m (sure_move them k)
  where
    by_moves : (m t : Move) → pay game m t ≤ 10 ^ 6
    by_moves C C = ok.reward
    by_moves C D = ok.sucker
    by_moves D C = ok.temptation
    by_moves D D = ok.punishment

-- fewer moves to the same row
pub record IsCut (them : Automaton) (ms : List Move) : Type 0 where
  pub moves : List Move
  pub count : ℕ
  pub size : length moves ≡ count
  pub fewer : count < length them.rows
  pub leads : led them them.start moves ≡ led them them.start ms

-- without the moves from i to j
pub without : (them : Automaton) (ms : List Move) (i j : ℕ) → led them them.start (take i ms) ≡ led them them.start (take j ms) → led them them.start (take i ms ++ drop j ms) ≡ led them them.start ms
without them ms i j e =
    led-append them them.start (take i ms) (drop j ms) ∙ ap (λ v. led them v (drop j ms)) e
    ∙ sym (led-append them them.start (take j ms) (drop j ms)) ∙ ap (led them them.start) (take-append-drop j ms)

pub without-length : (ms : List Move) (i j : ℕ) → i ≤ j → j ≤ length ms → length (take i ms ++ drop j ms) ≡ i + (length ms - j)
without-length ms i j h k = length-append (take i ms) (drop j ms) ∙ ap (λ n. n + length (drop j ms)) (length-take-le i ms (omega arith)) ∙ ap (λ n. i + n) (length-drop j ms)

pub cut : (them : Automaton) (game : Payoffs) → IsAutomaton them → (ms : List Move) → length ms ≡ length them.rows → IsCut them ms
cut them game ok ms size =
    let r : Repeats (length them.rows) (λ j. led them them.start (take j ms)) = pigeon (length them.rows) (λ j. led them them.start (take j ms)) (λ j h. led-inside them ok them.start (take j ms) ok.started) in
    let o : r.first < r.second = r.order in
    let l : r.second ≤ length them.rows = r.last in
    record {
      moves = take r.first ms ++ drop r.second ms;
      count = r.first + (length ms - r.second);
      size = without-length ms r.first r.second (omega arith) (omega arith);
      fewer = omega arith;
      leads = without them ms r.first r.second r.same;
    }
