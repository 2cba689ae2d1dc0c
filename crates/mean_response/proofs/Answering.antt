-- What the search finds, in the terms of the answer.
use Rattle.std.proofs.Common.{ℕ, zero, suc, ◌+◌, ◌*◌, ◌≡◌, ◌≤◌, ◌<◌, inl, inr, ℤ, pos, negsuc, ◌+ℤ◌, ◌-ℤ◌, ◌*ℤ◌, ◌≤ℤ◌, List, [], ◌∷◌, ◌++◌, length, length-append, slice_index_or, Option, Some, None, refl, ap, ◌∙◌, subst, arith}
use Rattle.std.proofs.lemmas.Int.{ints}
use Rattle.std.proofs.lemmas.Bool.{cases_lt}
use Rattle.std.proofs.lemmas.List.{get_or_past}
use Rattle.std.proofs.Math.Nat.{mul-le-mul_left, le_of_mul-le-mul_right}
use Rattle.history_model.specs.declared.moves.Move.{Move}
use Rattle.history_model.specs.declared.moves.Move.TheVariants.{C, D}
use Rattle.history_model.specs.Game.{Payoffs, pay, least, most}
use Rattle.history_model.specs.Automaton.{Automaton, IsAutomaton, IsSure}
use Rattle.history_model.specs.Path.{sure_move}
use Rattle.history_model.specs.Mean.{step, led, led_score, StepsUp, ArePotentials, IsLasso, HasMean}
use Rattle.strategy_trees.specs.Contest.{contest}
use Rattle.strategy_trees.specs.Bounds.{NoTreeExceeds}
use Rattle.strategy_trees.specs.Potentials.{PotentialsBoundTrees}
use Rattle.strategy_trees.specs.Lassos.{led_points, ScoresAreLowered, LassosScore}
use Rattle.mean_response.specs.Means.{potential_at, AreLowest, IsMean, IsPotential, AreGreatest, AreInRange, BoundsTrees, LassoScores}
use Rattle.mean_response.specs.Walks.{gain, HasPotential, IsHighest, IsTurned, IsLowest}
use Rattle.mean_response.proofs.Walking.{led-append, led_points-append, step-inside}
use Rattle.mean_response.proofs.Lassos.{gains_nothing}

-- ---- lowest terms
divisor : (num den d : ℕ) (a b : ℤ) → IsLowest num den → pos num ≡ pos d *ℤ a → pos den ≡ pos d *ℤ b → d ≡ 1
divisor num den d (pos a) (pos b) low ea eb = low.lowest d a b (omega (arith, ints, ea)) (omega (arith, ints, eb))
divisor num den zero a b low ea eb = let p = low.positive in absurd (omega (arith, ints, eb, p))
divisor num den (suc d) (negsuc a) b low ea eb = absurd (omega (arith, ints, ea))
divisor num den (suc d) (pos a) (negsuc b) low ea eb = absurd (omega (arith, ints, eb))

-- ---- points of a list of moves
pay-most : (game : Payoffs) (mine theirs : Move) → pay game mine theirs ≤ most game
pay-most game C C = omega arith
pay-most game C D = omega arith
pay-most game D C = omega arith
pay-most game D D = omega arith

pay-least : (game : Payoffs) (mine theirs : Move) → least game ≤ pay game mine theirs
pay-least game C C = omega arith
pay-least game C D = omega arith
pay-least game D C = omega arith
pay-least game D D = omega arith

points-most : (them : Automaton) (game : Payoffs) (row : ℕ) (moves : List Move) → led_points them game row moves ≤ most game * length moves
points-most them game row [] = omega arith
points-most them game row (move ∷ moves) = omega (arith, pay-most game move (sure_move them row), points-most them game (step them row move) moves)

points-least : (them : Automaton) (game : Payoffs) (row : ℕ) (moves : List Move) → least game * length moves ≤ led_points them game row moves
points-least them game row [] = omega arith
points-least them game row (move ∷ moves) = omega (arith, pay-least game move (sure_move them row), points-least them game (step them row move) moves)

-- ---- potentials
as_potential : (them : Automaton) (game : Payoffs) (num den row : ℕ) (o : Option ℤ) → HasPotential them game num den row o → IsPotential them game (pos num) (pos den) row o
as_potential them game num den row None p = p
as_potential them game num den row (Some h) p =
    let a = p.attained in
    let value = a.value in
    record {
      moves = a.moves;
      leads = a.leads;
      attained = omega (arith, ints, value);
      greatest = λ others l. (let u = p.above others l in omega (arith, ints, u));
    }

first_is : (them : Automaton) (game : Payoffs) (num den : ℕ) (o : Option ℤ) → HasPotential them game num den them.start o → o ≡ Some (pos 0)
first_is them game num den None p = absurd (p [] refl)
first_is them game num den (Some h) p =
    let a = p.attained in
    let low : pos (den * 0) ≤ℤ (h +ℤ pos (num * 0)) = p.above [] refl in
    let high = gains_nothing them game num den them.start a.moves h a.leads p in
    let value = a.value in
    let zero_is : h ≡ pos 0 = omega (arith, ints, low, high, value) in
    ap Some zero_is

-- the next row has a potential that is high enough
steps_up : (them : Automaton) (game : Payoffs) (num den row : ℕ) (move : Move) (h : ℤ) (o : Option ℤ) → IsHighest them game num den row h → HasPotential them game num den (step them row move) o →
    StepsUp o ((h +ℤ pos den *ℤ (pos (gain them game row move) -ℤ pos 0)) -ℤ pos num)
steps_up them game num den row move h None p q =
    let a = p.attained in q (a.moves ++ move ∷ []) (led-append them them.start a.moves (move ∷ []) ∙ ap (λ v. step them v move) a.leads)
steps_up them game num den row move h (Some h') p q =
    let a = p.attained in
    let up = q.above (a.moves ++ move ∷ []) (led-append them them.start a.moves (move ∷ []) ∙ ap (λ v. step them v move) a.leads) in
    let s : led_points them game them.start (a.moves ++ move ∷ []) ≡ led_points them game them.start a.moves + (gain them game row move + 0) =
    led_points-append them game them.start a.moves (move ∷ []) ∙ ap (λ v. led_points them game them.start a.moves + (gain them game v move + 0)) a.leads in
    let s2 : den * led_points them game them.start (a.moves ++ move ∷ []) ≡ den * (led_points them game them.start a.moves + (gain them game row move + 0)) = ap (λ x. den * x) s in
    let n : num * length (a.moves ++ move ∷ []) ≡ num * (length a.moves + 1) = ap (λ x. num * x) (length-append a.moves (move ∷ [])) in
    let e = a.value in
    omega (arith, ints, up, s2, n, e)

module _ (them : Automaton) (game : Payoffs) (ok : IsAutomaton them) (num den : ℕ) (potentials : List (Option ℤ)) (lead_in cycle : List Move)
    (low : IsLowest num den) (few : den ≤ length them.rows) (size : length potentials ≡ length them.rows)
    (each : (v : ℕ) (d : Option ℤ) → v < length them.rows → HasPotential them game num den v (slice_index_or potentials v d)) (turned : IsTurned them game num den lead_in cycle) where
  abbrev at : ℕ → Option ℤ
  at = potential_at potentials

  are_lowest : AreLowest (pos num) (pos den)
  are_lowest = record { some = (let p = low.positive in omega (arith, ints, p)); lowest = λ d a b ea eb. divisor num den d a b low ea eb }

  is_mean : IsMean them game (pos num) (pos den)
  is_mean =
      let w = led them them.start lead_in in
      let len = length cycle in
      let some : 0 < len = turned.some in
      let top = mul-le-mul_left den (points-most them game w cycle) in
      let bottom = mul-le-mul_left den (points-least them game w cycle) in
      let mean = turned.mean in
      let high₀ : num * len ≤ den * most game * len = omega (arith, top, mean) in
      let low₀ : den * least game * len ≤ num * len = omega (arith, bottom, mean) in
      let high : num ≤ den * most game = le_of_mul-le-mul_right high₀ some in
      let low' : den * least game ≤ num = le_of_mul-le-mul_right low₀ some in
      record { low = omega (arith, ints, low'); high = omega (arith, ints, high); few = omega (arith, ints, few) }

  first : at them.start ≡ Some (pos 0)
  first = first_is them game num den (at them.start) (each them.start None ok.started)

  are_greatest : AreGreatest them game (pos num) (pos den) at
  are_greatest = record { each = λ row inside. as_potential them game num den row (at row) (each row None inside) }

  -- a row with a potential is a row, and the potential its greatest surplus
  row_of : (row : ℕ) (h : ℤ) → at row ≡ Some h → (row < length them.rows) × IsHighest them game num den row h
  row_of row h e = elim (cases_lt row (length them.rows)) [
    | inl l ↦ (l, subst (HasPotential them game num den row) e (each row None l))
    | inr l ↦ (let past : length potentials ≤ row = omega (arith, size, l) in
        let none : at row ≡ None = get_or_past potentials row None past in absurd (cc (none, e)))
  ]

  are_in_range : AreInRange potentials
  are_in_range = record {
    low = λ row h e. (let l = (row_of row h e).1.low in omega (arith, ints, l));
    high = λ row h e. (row_of row h e).1.high;
  }

  are_potentials : ArePotentials them game 0 (pos num) (pos den) at
  are_potentials = record {
    started = λ e. absurd (cc (first, e));
    steps = λ row h move e.
        (let r = row_of row h e in
        steps_up them game num den row move h (at (step them row move)) r.1 (each (step them row move) None (step-inside them ok row move r.0)));
  }

  is_lasso : IsLasso them lead_in cycle
  is_lasso = record { some = λ e. (let s = turned.some in let z : length cycle ≡ 0 = ap length e in absurd (omega (arith, s, z))); returns = turned.returns }

  has_mean : ScoresAreLowered → HasMean them game 0 lead_in cycle (pos num) (pos den)
  has_mean scores =
      let w = led them them.start lead_in in
      let free : led_score them game 0 w cycle ≡ pos (led_points them game w cycle) = scores them game 0 w cycle ∙ omega (arith, ints) in
      ap (λ x. pos den *ℤ x) free ∙ ap pos turned.mean

  bounds_trees : PotentialsBoundTrees → IsSure them → BoundsTrees them game (pos num) (pos den) at
  bounds_trees law sure own_noise noise n most own other below =
      let c = contest own_noise them noise game in
      let bound : NoTreeExceeds c 0 n den ((pos num *ℤ pos n +ℤ most) -ℤ pos 0) =
      law c 0 n den (pos num) most (pos 0) at (record { own_rate = own.rate; automaton = ok; rate = other.rate })
      (record { own_still = own.none; sure = sure; still = other.none }) are_potentials first below in
      let e : (pos num *ℤ pos n +ℤ most) -ℤ pos 0 ≡ pos num *ℤ pos n +ℤ most = omega (arith, ints) in
      subst (NoTreeExceeds c 0 n den) e bound

  lasso_scores : ScoresAreLowered → LassosScore → LassoScores them game (pos num) (pos den) lead_in cycle
  lasso_scores scores law n = law them game 0 n den (pos num) lead_in cycle is_lasso (has_mean scores)

-- all clauses of the answer
pub record IsAnswer (them : Automaton) (game : Payoffs) (num den : ℤ) (potentials : List (Option ℤ)) (lead_in cycle : List Move) : Type 0 where
  pub lowest : AreLowest num den
  pub mean : IsMean them game num den
  pub size : length potentials ≡ length them.rows
  pub greatest : AreGreatest them game num den (potential_at potentials)
  pub start : potential_at potentials them.start ≡ Some (pos 0)
  pub in_range : AreInRange potentials
  pub are_potentials : ArePotentials them game 0 num den (potential_at potentials)
  pub lasso : IsLasso them lead_in cycle
  pub met : HasMean them game 0 lead_in cycle num den
  pub short : length lead_in + length cycle ≤ length them.rows
  pub bounds : BoundsTrees them game num den (potential_at potentials)
  pub scores : LassoScores them game num den lead_in cycle

pub answer : PotentialsBoundTrees → ScoresAreLowered → LassosScore → (them : Automaton) (game : Payoffs) → IsAutomaton them → IsSure them → (num den : ℕ) (potentials : List (Option ℤ)) (lead_in cycle : List Move) →
    IsLowest num den → den ≤ length them.rows → length potentials ≡ length them.rows →
    ((v : ℕ) (d : Option ℤ) → v < length them.rows → HasPotential them game num den v (slice_index_or potentials v d)) → IsTurned them game num den lead_in cycle →
    IsAnswer them game (pos num) (pos den) potentials lead_in cycle
answer law scores lassos them game ok sure num den potentials lead_in cycle low few size each turned = record {
  lowest = are_lowest them game ok num den potentials lead_in cycle low few size each turned;
  mean = is_mean them game ok num den potentials lead_in cycle low few size each turned;
  size = size;
  greatest = are_greatest them game ok num den potentials lead_in cycle low few size each turned;
  start = first them game ok num den potentials lead_in cycle low few size each turned;
  in_range = are_in_range them game ok num den potentials lead_in cycle low few size each turned;
  are_potentials = are_potentials them game ok num den potentials lead_in cycle low few size each turned;
  lasso = is_lasso them game ok num den potentials lead_in cycle low few size each turned;
  met = has_mean them game ok num den potentials lead_in cycle low few size each turned scores;
  short = turned.short;
  bounds = bounds_trees them game ok num den potentials lead_in cycle low few size each turned law sure;
  scores = lasso_scores them game ok num den potentials lead_in cycle low few size each turned scores lassos;
}
