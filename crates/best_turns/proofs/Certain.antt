-- Where nothing is left to chance nothing is rounded: the numbers are what the best moves are paid.
use Rattle.std.proofs.Common.{ℕ, zero, suc, ◌+◌, ◌-◌, ◌*◌, ◌/◌, ◌≡◌, ◌≤◌, ◌<◌, ◌⊎◌, ◌↔◌, inl, inr, max, ◌==◌, if◌then◌else◌, List, [], ◌∷◌, length, refl, sym, ap, ◌∙◌, arith}
use Rattle.std.proofs.lemmas.Bool.{cases_lt}
use Rattle.std.proofs.lemmas.Bool.Decides.{nat_tests}
use Rattle.std.proofs.Math.Nat.{mul-le-mul_left, mul-le-mul_right, le_of_mul-le-mul_right}
use Rattle.history_model.specs.declared.moves.Move.{Move}
use Rattle.history_model.specs.declared.moves.Move.TheVariants.{C, D}
use Rattle.history_model.specs.Game.{pay}
use Rattle.history_model.specs.Noise.{FlipRate}
use Rattle.history_model.specs.Automaton.{Automaton, weight_at, next_row}
use Rattle.history_model.specs.Path.{sure_move}
use Rattle.history_model.specs.Mean.{step}
use Rattle.history_model.specs.Expectation.{shown}
use Rattle.fixed_span.specs.Span.{score_units}
use Rattle.strategy_trees.specs.Contest.{Contest, IsContest, IsSureContest, rows, one_play, seen_as, worth}
use Rattle.strategy_trees.specs.Lassos.{led_points}
use Rattle.best_turns.specs.Rounded.{best_worth, choice, choice_at, ceiling, upper_of, lower_of, plan_of}
use Rattle.best_turns.specs.Response.{IsBestPaid, AttainsAsMuch}
use Rattle.best_turns.proofs.Rounding.{upper-zero, lower-zero, upper-suc, lower-suc, plan-suc, play_some, best_worth-same}

-- ---- one play is left of the four
abbrev only : ℕ → Move → Move → ℕ
only q C C = q
only q C D = 0
only q D C = 0
only q D D = q

seen_only : (noise : FlipRate) → noise.n ≡ 0 → (intended move : Move) → seen_as noise intended move ≡ only noise.e intended move
seen_only noise n C C = omega (arith, n)
seen_only noise n C D = n
seen_only noise n D C = n
seen_only noise n D D = omega (arith, n)

move_none : (w den : ℕ) → w ≡ 0 → 1 ≤ den → (if w == den then C else D) ≡ D
move_none w den e h = grind (arith, nat_tests)

move_all : (w den : ℕ) → w ≡ den → (if w == den then C else D) ≡ C
move_all w den e = grind (arith, nat_tests)

less_none : (a : ℕ) → a - 0 ≡ a
less_none a = omega arith

shown_none : (noise : FlipRate) (den w : ℕ) → noise.n ≡ 0 → w ≡ 0 → (move : Move) → shown noise den w move ≡ only (den * noise.e) D move
shown_none noise den w n e C = rw (n, e) (omega arith)
shown_none noise den w n e D = rw (n, e) (rw (less_none den, less_none noise.e) (omega arith))

shown_all : (noise : FlipRate) (den w : ℕ) → noise.n ≡ 0 → w ≡ den → (move : Move) → shown noise den w move ≡ only (den * noise.e) C move
shown_all noise den w n e C = rw (n, e) (let z : den - den ≡ 0 = omega arith in rw (z, less_none noise.e) (omega arith))
shown_all noise den w n e D = rw (n, e) (let z : den - den ≡ 0 = omega arith in rw z (omega arith))

shown_only : (b : Automaton) (noise : FlipRate) (row : ℕ) → noise.n ≡ 0 → 1 ≤ b.den → (weight_at b row ≡ 0) ⊎ (weight_at b row ≡ b.den) →
    (move : Move) → shown noise b.den (weight_at b row) move ≡ only (b.den * noise.e) (sure_move b row) move
shown_only b noise row n h (inl e) move = shown_none noise b.den (weight_at b row) n e move ∙ ap (λ m. only (b.den * noise.e) m move) (sym (move_none (weight_at b row) b.den e h))
shown_only b noise row n h (inr e) move = shown_all noise b.den (weight_at b row) n e move ∙ ap (λ m. only (b.den * noise.e) m move) (sym (move_all (weight_at b row) b.den e))

one_left : (p q : ℕ) (m t : Move) (f : Move → Move → ℕ) →
    only p m C * only q t C * f C C + only p m C * only q t D * f C D + only p m D * only q t C * f D C + only p m D * only q t D * f D D ≡ p * q * f m t
one_left p q C C f = omega arith
one_left p q C D f = omega arith
one_left p q D C f = omega arith
one_left p q D D f = omega arith

-- ---- no rounding
whole_floor : (v q : ℕ) → 0 < q → q * v / q ≡ v
whole_floor v q h = elim (cases_lt (q * v / q) v) [
  | inl l ↦ (let a : q * (q * v / q + 1) ≤ q * v = mul-le-mul_left q (let b : q * v / q + 1 ≤ v = omega arith in b) in
      let d : q * v < (q * v / q + 1) * q = omega arith in absurd (omega (arith, a, d)))
  | inr l ↦ (let d : q * v / q * q ≤ q * v = omega arith in
      let e : q * v / q * q ≤ v * q = omega (arith, d) in
      let f : q * v / q ≤ v = le_of_mul-le-mul_right e h in omega arith)
]

whole_ceiling : (v q : ℕ) → 0 < q → ceiling (q * v) q ≡ v
whole_ceiling v q h =
    let x = ceiling (q * v) q in
    let low : x * q ≤ q * v + (q - 1) = omega arith in
    let high : q * v ≤ x * q = omega arith in
    let one : v * q ≤ x * q = omega (arith, high) in
    let below : v ≤ x = le_of_mul-le-mul_right one h in
    elim (cases_lt v x) [
      | inr l ↦ omega arith
      | inl l ↦ (let m : (v + 1) * q ≤ x * q = mul-le-mul_right q (let k : v + 1 ≤ x = omega arith in k) in absurd (omega (arith, m, low)))
    ]

max_times : (q x y : ℕ) → max (q * x) (q * y) ≡ q * max x y
max_times q x y = elim (cases_lt x y) [
  | inl l ↦ (let e : max x y ≡ y = omega arith in let h : q * x ≤ q * y = mul-le-mul_left q (let k : x ≤ y = omega arith in k) in rw e (omega (arith, h)))
  | inr l ↦ (let e : max x y ≡ x = omega arith in let h : q * y ≤ q * x = mul-le-mul_left q l in rw e (omega (arith, h)))
]

choice_c : (x y : ℕ) → y ≤ x → choice x y ≡ C
choice_c x y h = grind (arith, nat_tests)

choice_le : (x y : ℕ) → choice x y ≡ C → y ≤ x
choice_le x y e = elim (cases_lt x y) [
  | inr l ↦ l
  | inl l ↦ (let d : choice x y ≡ D = grind (arith, nat_tests) in absurd (cc (sym d ∙ e)))
]

module _ (c : Contest) (ok : IsContest c) (sure : IsSureContest c) where
  abbrev b : Automaton
  b = c.opponent

  -- what a move brings, in units, by the numbers of one turn less
  abbrev brought : (ℕ → ℕ) → ℕ → Move → ℕ
  brought next row move = pay c.game move (sure_move b row) * score_units + next (step b row move)

  inside : (row : ℕ) (move : Move) → row < rows c → step b row move < rows c
  inside row move h = ok.automaton.closed row (sure_move b row) move h

  worth_sure : (next : ℕ → ℕ) (row : ℕ) (move : Move) → row < rows c → worth c score_units next row move ≡ one_play c * brought next row move
  worth_sure next row move h =
      let own = seen_only c.own_noise sure.own_still move in
      let other = shown_only b c.noise row sure.still ok.automaton.some (sure.sure row h) in
      rw (own C, own D, other C, other D)
      (one_left c.own_noise.e (b.den * c.noise.e) move (sure_move b row) (λ m t. pay c.game m t * score_units + next (next_row b row (record { mine = t; theirs = m }))))

  best_sure : (next : ℕ → ℕ) (row : ℕ) → row < rows c → best_worth c next row ≡ one_play c * max (brought next row C) (brought next row D)
  best_sure next row h =
      ap (λ x. max x (worth c score_units next row D)) (worth_sure next row C h) ∙ ap (λ x. max (one_play c * brought next row C) x) (worth_sure next row D h)
      ∙ max_times (one_play c) (brought next row C) (brought next row D)

  lower_sure : (t row : ℕ) → row < rows c → lower_of c (suc t) row ≡ max (brought (lower_of c t) row C) (brought (lower_of c t) row D)
  lower_sure t row h =
      lower-suc c t row ∙ ap (λ x. x / one_play c) (best_sure (lower_of c t) row h) ∙ whole_floor (max (brought (lower_of c t) row C) (brought (lower_of c t) row D)) (one_play c) (play_some c ok)

  pub same : (t row : ℕ) → row < rows c → lower_of c t row ≡ upper_of c t row
  same zero row h = lower-zero c row ∙ sym (upper-zero c row)
  same (suc t) row h =
      let v = max (brought (lower_of c t) row C) (brought (lower_of c t) row D) in
      let best : best_worth c (upper_of c t) row ≡ one_play c * v = sym (best_worth-same c ok (lower_of c t) (upper_of c t) (same t) row h) ∙ best_sure (lower_of c t) row h in
      lower_sure t row h ∙ sym (upper-suc c t row ∙ ap (λ x. ceiling x (one_play c)) best ∙ whole_ceiling v (one_play c) (play_some c ok))

  -- the best of t + 1 moves begins with the better move
  begun : (t row x : ℕ) (move : Move) → IsBestPaid c t (step b row move) (lower_of c t (step b row move)) → x ≡ brought (lower_of c t) row move →
      ((other : Move) → brought (lower_of c t) row other ≤ x) → ((other : Move) → IsBestPaid c t (step b row other) (lower_of c t (step b row other))) → IsBestPaid c (suc t) row x
  begun t row x move first e above later = record {
    moves = move ∷ first.moves;
    size = ap suc first.size;
    attained = (let a = first.attained in e ∙ omega (arith, a));
    greatest = at_most;
  }
    where
      at_most : (others : List Move) → length others ≡ suc t → led_points b c.game row others * score_units ≤ x
      at_most [] size = absurd (omega arith)
      at_most (other ∷ rest) size =
          let g = (later other).greatest rest (omega arith) in
          let u = above other in
          omega (arith, g, u)

  pub best : (t row : ℕ) → row < rows c → IsBestPaid c t row (lower_of c t row)
  best zero row h = record { moves = []; size = refl; attained = lower-zero c row; greatest = none }
    where
      none : (others : List Move) → length others ≡ 0 → led_points b c.game row others * score_units ≤ lower_of c 0 row
      none [] size = omega arith
      none (other ∷ rest) size = absurd (omega arith)
  best (suc t) row h =
      let f = lower_of c t in
      let later : (move : Move) → IsBestPaid c t (step b row move) (f (step b row move)) = λ move. best t (step b row move) (inside row move h) in
      let is = lower_sure t row h in
      let above : (move : Move) → brought f row move ≤ lower_of c (suc t) row = λ move.
      elim move as (λ m. brought f row m ≤ lower_of c (suc t) row) [ C ↦ omega (arith, is) | D ↦ omega (arith, is) ] in
      elim (cases_lt (brought f row C) (brought f row D)) [
        | inl l ↦ begun t row (lower_of c (suc t) row) D (later D) (omega (arith, is, l)) above later
        | inr l ↦ begun t row (lower_of c (suc t) row) C (later C) (omega (arith, is, l)) above later
      ]

  -- C is worth as much as D exactly where it brings as much
  brings : (next : ℕ → ℕ) (row : ℕ) → row < rows c → (choice_at c next row ≡ C) ↔ (brought next row D ≤ brought next row C)
  brings next row h =
      let q = one_play c in
      let wc = worth_sure next row C h in
      let wd = worth_sure next row D h in (
        (λ e.
            (let l : worth c score_units next row D ≤ worth c score_units next row C = choice_le (worth c score_units next row C) (worth c score_units next row D) e in
            let m : brought next row D * q ≤ brought next row C * q = omega (arith, l, wc, wd) in
            le_of_mul-le-mul_right m (play_some c ok))),
        (λ l.
            (let m = mul-le-mul_left q l in
            choice_c (worth c score_units next row C) (worth c score_units next row D) (omega (arith, m, wc, wd)))),
      )

  pub ties : (t row : ℕ) → row < rows c → (plan_of c (suc t) row ≡ C) ↔ AttainsAsMuch c (suc t) row
  ties t row h =
      let f = lower_of c t in
      let if_c = best t (step b row C) (inside row C h) in
      let if_d = best t (step b row D) (inside row D h) in
      let test = brings f row h in (
        (λ e later size.
            (let l = test.0 (sym (plan-suc c t row) ∙ e) in
            let g = if_d.greatest later (omega arith) in
            let a = if_c.attained in
            record {
              later = if_c.moves;
              size = ap suc if_c.size;
              enough = le_of_mul-le-mul_right {k = score_units} (omega (arith, l, g, a)) (omega arith);
            })),
        (λ attains.
            (let r = attains if_d.moves (ap suc if_d.size) in
            let g = if_c.greatest r.later (let s = r.size in omega arith) in
            let m = mul-le-mul_right score_units r.enough in
            let a = if_d.attained in
            plan-suc c t row ∙ test.1 (omega (arith, g, m, a)))),
      )
