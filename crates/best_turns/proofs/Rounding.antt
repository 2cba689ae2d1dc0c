-- The rounded induction: what it tests, how wide it is, and what it can pay.
use Rattle.std.proofs.Common.{ℕ, zero, suc, ◌+◌, ◌-◌, ◌*◌, ◌/◌, ◌≡◌, ◌≤◌, ◌<◌, inl, inr, max, refl, ap, ◌∙◌, arith}
use Rattle.std.proofs.lemmas.Bool.{cases_lt}
use Rattle.std.proofs.lemmas.Bool.Decides.{nat_tests}
use Rattle.std.proofs.Math.Nat.{mul-le-mul_left, mul-le-mul_right, le_trans, le_of_mul-le-mul_right, mul-pos}
use Rattle.history_model.specs.declared.moves.Move.{Move}
use Rattle.history_model.specs.declared.moves.Move.TheVariants.{C, D}
use Rattle.history_model.specs.declared.moves.Play.{Play}
use Rattle.history_model.specs.Game.{Payoffs, pay, least, most}
use Rattle.history_model.specs.History.{turned_play}
use Rattle.history_model.specs.Automaton.{weight_at, next_row}
use Rattle.history_model.specs.Expectation.{shown, over_plays}
use Rattle.fixed_span.specs.Span.{score_units}
use Rattle.strategy_trees.specs.Contest.{Contest, IsContest, rows, one_play, seen_as, worth}
use Rattle.best_turns.specs.Rounded.{best_worth, choice, choice_at, ceiling, upper_of, lower_of, plan_of}
use Rattle.best_turns.proofs.Weighing.{shown_sum, seen_sum}

-- ---- sums over plays
over_plays-same : (f g : Play → ℕ) → ((play : Play) → f play ≡ g play) → over_plays f ≡ over_plays g
over_plays-same f g e =
    let cc = e (record { mine = C; theirs = C }) in
    let cd = e (record { mine = C; theirs = D }) in
    let dc = e (record { mine = D; theirs = C }) in
    let dd = e (record { mine = D; theirs = D }) in
    omega (arith, cc, cd, dc, dd)

over_plays-le : (f g : Play → ℕ) → ((play : Play) → f play ≤ g play) → over_plays f ≤ over_plays g
over_plays-le f g e =
    let cc = e (record { mine = C; theirs = C }) in
    let cd = e (record { mine = C; theirs = D }) in
    let dc = e (record { mine = D; theirs = C }) in
    let dd = e (record { mine = D; theirs = D }) in
    omega (arith, cc, cd, dc, dd)

pub pay-most : (game : Payoffs) (mine theirs : Move) → pay game mine theirs ≤ most game
pay-most game C C = omega arith
pay-most game C D = omega arith
pay-most game D C = omega arith
pay-most game D D = omega arith

pub pay-least : (game : Payoffs) (mine theirs : Move) → least game ≤ pay game mine theirs
pay-least game C C = omega arith
pay-least game C D = omega arith
pay-least game D C = omega arith
pay-least game D D = omega arith

total : (x y u v z : ℕ) → x * u * z + x * v * z + y * u * z + y * v * z ≡ z * ((x + y) * (u + v))
total x y u v z = omega arith

-- ---- rounding
ceiling-holds : (x q : ℕ) → 0 < q → x ≤ ceiling x q * q
ceiling-holds x q h = omega arith

ceiling-le : (x q y : ℕ) → 0 < q → x ≤ y * q → ceiling x q ≤ y
ceiling-le x q y h l = elim (cases_lt y (ceiling x q)) [
  | inr k ↦ k
  | inl k ↦ (let m : (y + 1) * q ≤ ceiling x q * q = mul-le-mul_right q (let k2 : y + 1 ≤ ceiling x q = omega arith in k2) in
      let n : ceiling x q * q ≤ x + (q - 1) = omega arith in
      absurd (omega (arith, m, n, l)))
]

floor-holds : (x q : ℕ) → x / q * q ≤ x
floor-holds x q = omega arith

floor-next : (x q : ℕ) → 0 < q → x ≤ (x / q + 1) * q
floor-next x q h = omega arith

floor-ge : (x q y : ℕ) → 0 < q → y * q ≤ x → y ≤ x / q
floor-ge x q y h l = elim (cases_lt (x / q) y) [
  | inr k ↦ k
  | inl k ↦ (let m : (x / q + 1) * q ≤ y * q = mul-le-mul_right q (let k2 : x / q + 1 ≤ y = omega arith in k2) in
      let n : x < (x / q + 1) * q = omega arith in
      absurd (omega (arith, m, n, l)))
]

rounds : (x y q : ℕ) → 0 < q → x ≤ y → x / q ≤ ceiling y q
rounds x y q h l =
    let a : x / q * q ≤ x = omega arith in
    let b : y ≤ ceiling y q * q = ceiling-holds y q h in
    le_of_mul-le-mul_right (omega (arith, a, b, l)) h

grown : (f x y b : ℕ) → x ≤ y + b → f * x ≤ f * y + f * b
grown f x y b l = omega (arith, mul-le-mul_left f l)

pub upper-zero : (c : Contest) (row : ℕ) → upper_of c 0 row ≡ 0
unfolding upper_of
upper-zero c row = refl

pub lower-zero : (c : Contest) (row : ℕ) → lower_of c 0 row ≡ 0
unfolding lower_of
lower-zero c row = refl

pub upper-suc : (c : Contest) (t row : ℕ) → upper_of c (suc t) row ≡ ceiling (best_worth c (upper_of c t) row) (one_play c)
unfolding upper_of
upper-suc c t row = refl

pub lower-suc : (c : Contest) (t row : ℕ) → lower_of c (suc t) row ≡ best_worth c (lower_of c t) row / one_play c
unfolding lower_of
lower-suc c t row = refl

pub plan-suc : (c : Contest) (t row : ℕ) → plan_of c (suc t) row ≡ choice_at c (lower_of c t) row
unfolding plan_of
plan-suc c t row = refl

best-le : (c : Contest) (next : ℕ → ℕ) (row b : ℕ) → ((move : Move) → worth c score_units next row move ≤ b) → best_worth c next row ≤ b
best-le c next row b h = let x = h C in let y = h D in omega arith

best-above : (c : Contest) (next : ℕ → ℕ) (row : ℕ) (move : Move) → worth c score_units next row move ≤ best_worth c next row
best-above c next row C = omega arith
best-above c next row D = omega arith

pub chosen : (c : Contest) (next : ℕ → ℕ) (row : ℕ) → worth c score_units next row (choice_at c next row) ≡ best_worth c next row
chosen c next row =
    let x = worth c score_units next row C in
    let y = worth c score_units next row D in
    elim (cases_lt x y) [
      | inl l ↦ (let e : choice x y ≡ D = grind (arith, nat_tests) in ap (λ m. worth c score_units next row m) e ∙ omega arith)
      | inr l ↦ (let e : choice x y ≡ C = grind (arith, nat_tests) in ap (λ m. worth c score_units next row m) e ∙ omega arith)
    ]

module _ (c : Contest) (ok : IsContest c) where
  inside : (row : ℕ) (play : Play) → row < rows c → next_row c.opponent row (turned_play play) < rows c
  inside row play h = ok.automaton.closed row play.theirs play.mine h

  -- numbers that agree at each row give one worth
  pub worth-same : (f g : ℕ → ℕ) → ((row : ℕ) → row < rows c → f row ≡ g row) → (row : ℕ) (move : Move) → row < rows c → worth c score_units f row move ≡ worth c score_units g row move
  worth-same f g e row move h = over_plays-same _ _ (λ play.
      ap (λ z. seen_as c.own_noise move play.mine * shown c.noise c.opponent.den (weight_at c.opponent row) play.theirs * (pay c.game play.mine play.theirs * score_units + z))
      (e (next_row c.opponent row (turned_play play)) (inside row play h)))

  pub best_worth-same : (f g : ℕ → ℕ) → ((row : ℕ) → row < rows c → f row ≡ g row) → (row : ℕ) → row < rows c → best_worth c f row ≡ best_worth c g row
  best_worth-same f g e row h =
      ap (λ x. max x (worth c score_units f row D)) (worth-same f g e row C h) ∙ ap (λ x. max (worth c score_units g row C) x) (worth-same f g e row D h)

  -- the weights of a move's four plays add up to the denominator of one play
  plays_sum : (row : ℕ) (move : Move) (z : ℕ) → row < rows c →
      over_plays (λ play. seen_as c.own_noise move play.mine * shown c.noise c.opponent.den (weight_at c.opponent row) play.theirs * z) ≡ z * one_play c
  plays_sum row move z h =
      let s : Move → ℕ = shown c.noise c.opponent.den (weight_at c.opponent row) in
      total (seen_as c.own_noise move C) (seen_as c.own_noise move D) (s C) (s D) z
      ∙ ap (λ x. z * (x * (s C + s D))) (seen_sum c.own_noise move ok.own_rate)
      ∙ ap (λ x. z * (c.own_noise.e * x)) (shown_sum c.noise c.opponent.den (weight_at c.opponent row) ok.rate (ok.automaton.weighed row h))

  pub play_some : 0 < one_play c
  play_some = mul-pos ok.own_rate.some (mul-pos ok.automaton.some ok.rate.some)

  worth-high : (f : ℕ → ℕ) (top b : ℕ) → ((mine theirs : Move) → pay c.game mine theirs ≤ top) → ((row : ℕ) → row < rows c → f row ≤ b) →
      (row : ℕ) (move : Move) → row < rows c → worth c score_units f row move ≤ (top * score_units + b) * one_play c
  worth-high f top b few small row move h = rw (← plays_sum row move (top * score_units + b) h) (over_plays-le _ _ (λ play.
      (let s : f (next_row c.opponent row (turned_play play)) ≤ b = small (next_row c.opponent row (turned_play play)) (inside row play h) in
      let p : pay c.game play.mine play.theirs ≤ top = few play.mine play.theirs in
      let l : pay c.game play.mine play.theirs * score_units + f (next_row c.opponent row (turned_play play)) ≤ top * score_units + b = omega arith in
      mul-le-mul_left (seen_as c.own_noise move play.mine * shown c.noise c.opponent.den (weight_at c.opponent row) play.theirs) l)))

  worth-low : (f : ℕ → ℕ) (bottom b : ℕ) → ((mine theirs : Move) → bottom ≤ pay c.game mine theirs) → ((row : ℕ) → row < rows c → b ≤ f row) →
      (row : ℕ) (move : Move) → row < rows c → (bottom * score_units + b) * one_play c ≤ worth c score_units f row move
  worth-low f bottom b many large row move h = rw (← plays_sum row move (bottom * score_units + b) h) (over_plays-le _ _ (λ play.
      (let s : b ≤ f (next_row c.opponent row (turned_play play)) = large (next_row c.opponent row (turned_play play)) (inside row play h) in
      let p : bottom ≤ pay c.game play.mine play.theirs = many play.mine play.theirs in
      let l : bottom * score_units + b ≤ pay c.game play.mine play.theirs * score_units + f (next_row c.opponent row (turned_play play)) = omega arith in
      mul-le-mul_left (seen_as c.own_noise move play.mine * shown c.noise c.opponent.den (weight_at c.opponent row) play.theirs) l)))

  -- a worth grows by at most the denominator of one play times what each number grows by
  worth-grows : (f g : ℕ → ℕ) (b : ℕ) → ((row : ℕ) → row < rows c → f row ≤ g row + b) → (row : ℕ) (move : Move) → row < rows c →
      worth c score_units f row move ≤ worth c score_units g row move + b * one_play c
  worth-grows f g b near row move h =
      let w : Play → ℕ = λ play. seen_as c.own_noise move play.mine * shown c.noise c.opponent.den (weight_at c.opponent row) play.theirs in
      let x : Play → ℕ = λ play. pay c.game play.mine play.theirs * score_units + f (next_row c.opponent row (turned_play play)) in
      let y : Play → ℕ = λ play. pay c.game play.mine play.theirs * score_units + g (next_row c.opponent row (turned_play play)) in
      let each : (play : Play) → w play * x play ≤ w play * y play + w play * b = λ play.
      (let n : f (next_row c.opponent row (turned_play play)) ≤ g (next_row c.opponent row (turned_play play)) + b = near (next_row c.opponent row (turned_play play)) (inside row play h) in
      grown (w play) (x play) (y play) b (omega arith)) in
      let sums = over_plays-le (λ play. w play * x play) (λ play. w play * y play + w play * b) each in
      rw (← plays_sum row move b h) (omega (arith, sums))

  pub upper-above : (t row : ℕ) (move : Move) → worth c score_units (upper_of c t) row move ≤ upper_of c (suc t) row * one_play c
  upper-above t row move =
      rw (upper-suc c t row) (le_trans (best-above c (upper_of c t) row move) (ceiling-holds (best_worth c (upper_of c t) row) (one_play c) play_some))

  pub lower-below : (t row : ℕ) → lower_of c (suc t) row * one_play c ≤ worth c score_units (lower_of c t) row (plan_of c (suc t) row)
  lower-below t row = rw (lower-suc c t row, plan-suc c t row, chosen c (lower_of c t) row) (floor-holds (best_worth c (lower_of c t) row) (one_play c))

  pub upper-high : (t row : ℕ) → row < rows c → upper_of c t row ≤ t * most c.game * score_units
  upper-high zero row h = rw (upper-zero c row) (omega arith)
  upper-high (suc t) row h =
      let w : best_worth c (upper_of c t) row ≤ (most c.game * score_units + t * most c.game * score_units) * one_play c =
      best-le c (upper_of c t) row _ (λ move. worth-high (upper_of c t) (most c.game) (t * most c.game * score_units) (pay-most c.game) (upper-high t) row move h) in
      let k = ceiling-le (best_worth c (upper_of c t) row) (one_play c) (most c.game * score_units + t * most c.game * score_units) play_some w in
      rw (upper-suc c t row) (omega (arith, k))

  pub lower-low : (t row : ℕ) → row < rows c → t * least c.game * score_units ≤ lower_of c t row
  lower-low zero row h = omega arith
  lower-low (suc t) row h =
      let w : (least c.game * score_units + t * least c.game * score_units) * one_play c ≤ best_worth c (lower_of c t) row =
      le_trans (worth-low (lower_of c t) (least c.game) (t * least c.game * score_units) (pay-least c.game) (lower-low t) row C h) (best-above c (lower_of c t) row C) in
      let k = floor-ge (best_worth c (lower_of c t) row) (one_play c) (least c.game * score_units + t * least c.game * score_units) play_some w in
      rw (lower-suc c t row) (omega (arith, k))

  -- the uppers exceed the lowers by at most a unit a turn
  pub narrow : (t row : ℕ) → row < rows c → upper_of c t row ≤ lower_of c t row + t
  narrow zero row h = rw (upper-zero c row) (omega arith)
  narrow (suc t) row h =
      let u = upper_of c t in
      let l = lower_of c t in
      let q = one_play c in
      let w : best_worth c u row ≤ best_worth c l row + t * q =
      best-le c u row _ (λ move. (let a = worth-grows u l t (narrow t) row move h in let b = best-above c l row move in omega (arith, a, b))) in
      let f : best_worth c l row ≤ (best_worth c l row / q + 1) * q = floor-next (best_worth c l row) q play_some in
      let k = ceiling-le (best_worth c u row) q (best_worth c l row / q + 1 + t) play_some (omega (arith, w, f)) in
      rw (upper-suc c t row, lower-suc c t row) (omega (arith, k))

  pub ordered : (t row : ℕ) → row < rows c → lower_of c t row ≤ upper_of c t row
  ordered zero row h = rw (lower-zero c row) (omega arith)
  ordered (suc t) row h =
      let u = upper_of c t in
      let l = lower_of c t in
      let w : best_worth c l row ≤ best_worth c u row + 0 * one_play c =
      best-le c l row _ (λ move. (let a = worth-grows l u 0 (λ k i. (let o = ordered t k i in omega arith)) row move h in let b = best-above c u row move in omega (arith, a, b))) in
      rw (upper-suc c t row, lower-suc c t row) (rounds (best_worth c l row) (best_worth c u row) (one_play c) play_some (omega (arith, w)))
