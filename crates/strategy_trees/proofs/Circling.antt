-- What a lasso scores in n turns.
use Rattle.std.proofs.Common.{ℕ, zero, suc, ◌+◌, ◌-◌, ◌*◌, ◌≡◌, ◌≤◌, ◌<◌, ℤ, pos, negsuc, ◌+ℤ◌, ◌-ℤ◌, ◌*ℤ◌, ◌≤ℤ◌, List, [], ◌∷◌, length, refl, ap, ◌∙◌, arith}
use Rattle.std.proofs.lemmas.Int.{ints}
use Rattle.std.proofs.Math.Nat.{mul-le-mul_left, le_of_mul-le-mul_right}
use Rattle.history_model.specs.declared.moves.Move.{Move}
use Rattle.history_model.specs.declared.moves.Move.TheVariants.{C, D}
use Rattle.history_model.specs.Game.{Payoffs, pay, least, most}
use Rattle.history_model.specs.Automaton.{Automaton}
use Rattle.history_model.specs.Path.{sure_move}
use Rattle.history_model.specs.Mean.{step, led, led_score, HasMean}
use Rattle.strategy_trees.specs.Lassos.{led_points, lasso_moves, IsLassoScore, LassosScore, ScoresAreLowered}
use Rattle.strategy_trees.proofs.Signed.{pos-less, less-pos, plus-pos}

pay-most : (game : Payoffs) (mine theirs : Move) → pay game mine theirs ≤ most game
pay-most game C C = omega arith
pay-most game C D = omega arith
pay-most game D C = omega arith
pay-most game D D = omega arith

pay-least : (game : Payoffs) (mine theirs : Move) → least game ≤ pay game mine theirs
pay-least game C C = omega arith
pay-least game C D = omega arith
pay-least game D C = omega arith
pay-least game D D = omega arith

points-most : (b : Automaton) (game : Payoffs) (row : ℕ) (moves : List Move) → led_points b game row moves ≤ most game * length moves
points-most b game row [] = omega arith
points-most b game row (move ∷ moves) = omega (arith, pay-most game move (sure_move b row), points-most b game (step b row move) moves)

points-least : (b : Automaton) (game : Payoffs) (row : ℕ) (moves : List Move) → least game * length moves ≤ led_points b game row moves
points-least b game row [] = omega arith
points-least b game row (move ∷ moves) = omega (arith, pay-least game move (sure_move b row), points-least b game (step b row move) moves)

-- a cycle from row w back to it, with the mean num / den; slack is den times the spread of the payoffs
module _ (b : Automaton) (game : Payoffs) (num den slack w : ℕ) (first : Move) (others : List Move)
    (returns : led b w (first ∷ others) ≡ w) (mean : den * led_points b game w (first ∷ others) ≡ num * length (first ∷ others))
    (low : (row : ℕ) (move : Move) → num ≤ den * pay game move (sure_move b row) + slack)
    (high : (row : ℕ) (move : Move) → den * pay game move (sure_move b row) ≤ num + slack) where
  part : (row : ℕ) (rest : List Move) → den * led_points b game row rest ≤ num * length rest + slack * length rest
  part row [] = omega arith
  part row (move ∷ rest) = omega (arith, high row move, part (step b row move) rest)

  -- within the cycle
  round : (n row : ℕ) (rest : List Move) → led b row rest ≡ w → length rest ≤ length (first ∷ others) →
      num * n + den * led_points b game row rest ≤ den * led_points b game row (lasso_moves rest (first ∷ others) n) + num * length rest + slack * length (first ∷ others)
  round zero row rest back short = let p = part row rest in let s = mul-le-mul_left slack short in omega (arith, p, s)
  round (suc n) row [] back short =
      let e : led b (step b row first) others ≡ w = ap (λ v. led b (step b v first) others) back ∙ returns in
      let r = round n (step b row first) others e (omega arith) in
      let m : den * led_points b game row (first ∷ others) ≡ num * length (first ∷ others) = ap (λ v. den * led_points b game v (first ∷ others)) back ∙ mean in
      omega (arith, r, m)
  round (suc n) row (move ∷ rest) back short = let r = round n (step b row move) rest back (omega arith) in omega (arith, r)

  whole : (n row : ℕ) (rest : List Move) → led b row rest ≡ w →
      num * n ≤ den * led_points b game row (lasso_moves rest (first ∷ others) n) + slack * (length rest + length (first ∷ others))
  whole zero row rest back = omega arith
  whole (suc n) row [] back = let r = round (suc n) row [] back (omega arith) in omega (arith, r)
  whole (suc n) row (move ∷ rest) back = let r = whole n (step b row move) rest back in omega (arith, r, low row move)

lasso-length : (first : Move) (others rest : List Move) (n : ℕ) → length (lasso_moves rest (first ∷ others) n) ≡ n
lasso-length first others [] zero = refl
lasso-length first others (move ∷ rest) zero = refl
lasso-length first others [] (suc n) = ap suc (lasso-length first others others n)
lasso-length first others (move ∷ rest) (suc n) = ap suc (lasso-length first others rest n)

-- the points of a lasso, with a mean of the payoffs themselves
lasso-points : (b : Automaton) (game : Payoffs) (num den : ℕ) (lead_in : List Move) (first : Move) (others : List Move) (n : ℕ) →
    led b (led b b.start lead_in) (first ∷ others) ≡ led b b.start lead_in →
    den * led_points b game (led b b.start lead_in) (first ∷ others) ≡ num * length (first ∷ others) →
    num * n ≤ den * led_points b game b.start (lasso_moves lead_in (first ∷ others) n) + den * (length lead_in + length (first ∷ others)) * (most game - least game)
lasso-points b game num den lead_in first others n returns mean =
    let w = led b b.start lead_in in
    let len = length (first ∷ others) in
    let some : 0 < len = omega arith in
    let s = led_points b game w (first ∷ others) in
    let top = mul-le-mul_left den (points-most b game w (first ∷ others)) in
    let bottom = mul-le-mul_left den (points-least b game w (first ∷ others)) in
    let high₀ : num * len ≤ den * most game * len = omega (arith, top, mean) in
    let low₀ : den * least game * len ≤ num * len = omega (arith, bottom, mean) in
    let high : num ≤ den * most game = le_of_mul-le-mul_right high₀ some in
    let low : den * least game ≤ num = le_of_mul-le-mul_right low₀ some in
    let slack = den * (most game - least game) in
    let span : most game ≤ least game + (most game - least game) = omega arith in
    let spread : den * most game ≤ den * least game + slack = let x = mul-le-mul_left den span in omega (arith, x) in
    let all = whole b game num den slack w first others returns mean
    (λ row move. (let x = mul-le-mul_left den (pay-least game move (sure_move b row)) in omega (arith, x, high, spread)))
    (λ row move. (let x = mul-le-mul_left den (pay-most game move (sure_move b row)) in omega (arith, x, low, spread)))
    n b.start lead_in refl in
    omega (arith, all)

-- a mean of points that are none below 0 is none either
raised_mean : (len points : ℕ) (raised : ℤ) → 0 < len → pos points ≡ raised *ℤ pos len → (r : ℕ) × (raised ≡ pos r) × (points ≡ r * len)
raised_mean len points (pos r) some e = (r, refl, omega (arith, ints, e))
raised_mean zero points (negsuc k) some e = absurd (omega arith)
raised_mean (suc len) points (negsuc k) some e = absurd (omega (arith, ints, e))

scored : ScoresAreLowered → (b : Automaton) (game : Payoffs) (offset den row : ℕ) (moves : List Move) →
    pos den *ℤ led_score b game offset row moves ≡ pos (den * led_points b game row moves) -ℤ pos (den * (offset * length moves))
scored scores b game offset den row moves =
    ap (λ x. pos den *ℤ x) (scores b game offset row moves) ∙ pos-less den (led_points b game row moves) (offset * length moves)

-- from points to scores
finish : (n den offset r points slack size : ℕ) (num score : ℤ) → size ≡ n → num ≡ pos r -ℤ pos (den * offset) →
    pos den *ℤ score ≡ pos (den * points) -ℤ pos (den * (offset * size)) → r * n ≤ den * points + slack → (num *ℤ pos n) ≤ℤ ((pos den *ℤ score) +ℤ pos slack)
finish n den offset r points slack size num score turns is e all =
    let left : num *ℤ pos n ≡ pos (r * n) -ℤ pos (den * offset * n) = ap (λ x. x *ℤ pos n) is ∙ less-pos r (den * offset) n in
    let right : den * (offset * size) ≡ den * offset * n = rw turns (omega arith) in
    omega (arith, ints, left, right, e, all)

lasso-score : ScoresAreLowered → (b : Automaton) (game : Payoffs) (offset n den : ℕ) (num : ℤ) (lead_in : List Move) (first : Move) (others : List Move) →
    led b (led b b.start lead_in) (first ∷ others) ≡ led b b.start lead_in → HasMean b game offset lead_in (first ∷ others) num (pos den) →
    IsLassoScore b game offset n den num lead_in (first ∷ others)
lasso-score scores b game offset n den num lead_in first others returns mean =
    let w = led b b.start lead_in in
    let len = length (first ∷ others) in
    let moves = lasso_moves lead_in (first ∷ others) n in
    let turns : length moves ≡ n = lasso-length first others lead_in n in
    let raised = raised_mean len (den * led_points b game w (first ∷ others)) (num +ℤ pos (den * offset)) (omega arith)
    (omega (arith, ints, scored scores b game offset den w (first ∷ others), mean, plus-pos num (den * offset) len)) in
    let is : num ≡ pos raised.0 -ℤ pos (den * offset) = let e = raised.1 in omega (arith, ints, e) in
    record {
      turns = turns;
      score = finish n den offset raised.0 (led_points b game b.start moves) (den * (length lead_in + len) * (most game - least game)) (length moves) num
          (led_score b game offset b.start moves) turns is (scored scores b game offset den b.start moves)
          (lasso-points b game raised.0 den lead_in first others n returns raised.2);
    }

pub lassos_score_lem : ScoresAreLowered → LassosScore
lassos_score_lem scores b game offset n den num lead_in [] lasso mean = absurd (lasso.some refl)
lassos_score_lem scores b game offset n den num lead_in (first ∷ others) lasso mean = lasso-score scores b game offset n den num lead_in first others lasso.returns mean
