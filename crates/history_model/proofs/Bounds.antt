-- How large expected points can be.
use Rattle.std.proofs.Common.{ℕ, zero, suc, ◌+◌, ◌*◌, ◌^◌, ◌≡◌, ◌≤◌, ◌<◌, [], length, sym, ap, ◌∙◌, arith, add-one}
use Rattle.std.proofs.Math.Nat.{pow-succ', mul-le-mul_left, mul-le-mul_right, mul-le-mul}
use Rattle.history_model.specs.declared.moves.Move.{Move}
use Rattle.history_model.specs.declared.moves.Move.TheVariants.{C, D}
use Rattle.history_model.specs.declared.moves.Play.{Play}
use Rattle.history_model.specs.Game.{Payoffs, IsGame, pay}
use Rattle.history_model.specs.Noise.{FlipRate, IsFlipRate}
use Rattle.history_model.specs.Automaton.{Automaton, IsAutomaton, weight_at, next_row}
use Rattle.history_model.specs.History.{turned_play}
use Rattle.history_model.specs.Expectation.{shown, over_plays, quotient, player, player_from, expected_by_rows}
use Rattle.history_model.proofs.Sums.{cc, cd, dc, dd, over_plays-times, factor_sum}
use Rattle.history_model.proofs.Rows.{next_row-within, automata_are_weighed_lem}

pub pay-within : (game : Payoffs) (mine theirs : Move) → IsGame game → pay game mine theirs ≤ 1000000
pay-within game C C ok = ok.reward
pay-within game C D ok = ok.sucker
pay-within game D C ok = ok.temptation
pay-within game D D ok = ok.punishment

over_plays-le : (f g : Play → ℕ) → ((play : Play) → f play ≤ g play) → over_plays f ≤ over_plays g
over_plays-le f g e = omega (arith, e cc, e cd, e dc, e dd)

pub one_turn_more : (p n q e : ℕ) → p ≤ 1000000 → e ≤ n * 1000000 * q → p * q + e ≤ suc n * 1000000 * q
one_turn_more p n q e h k = omega (arith, mul-le-mul_right q h)

module _ (a : Automaton) (na : FlipRate) (b : Automaton) (nb : FlipRate) (game : Payoffs)
    (oka : IsAutomaton a) (ra : IsFlipRate na) (okb : IsAutomaton b) (rb : IsFlipRate nb) (okg : IsGame game) where
  weights_sum : (u v : ℕ) → u < length a.rows → v < length b.rows →
      over_plays (λ play. shown na a.den (weight_at a u) play.mine * shown nb b.den (weight_at b v) play.theirs) ≡ a.den * na.e * (b.den * nb.e)
  weights_sum u v hu hv =
      factor_sum (player_from a u) na (player_from b v) nb (automata_are_weighed_lem a u oka hu) ra (automata_are_weighed_lem b v okb hv) rb []

  pub by_rows-most : (n u v : ℕ) → u < length a.rows → v < length b.rows →
      expected_by_rows a na b nb game n u v ≤ n * 1000000 * quotient (player a) na (player b) nb ^ n
  by_rows-most zero u v hu hv = omega arith
  by_rows-most (suc n) u v hu hv =
      let q = a.den * na.e * (b.den * nb.e) in
      let f : Play → ℕ = λ play. shown na a.den (weight_at a u) play.mine * shown nb b.den (weight_at b v) play.theirs in
      let later : Play → ℕ = λ play. expected_by_rows a na b nb game n (next_row a u play) (next_row b v (turned_play play)) in
      let each : (play : Play) → f play * (pay game play.mine play.theirs * q ^ n + later play) ≤ f play * (suc n * 1000000 * q ^ n) =
      λ play. mul-le-mul_left (f play) (one_turn_more (pay game play.mine play.theirs) n (q ^ n) (later play)
      (pay-within game play.mine play.theirs okg)
      (by_rows-most n (next_row a u play) (next_row b v (turned_play play)) (next_row-within a u play oka hu) (next_row-within b v (turned_play play) okb hv))) in
      let all : over_plays (λ play. f play * (suc n * 1000000 * q ^ n)) ≡ suc n * 1000000 * q ^ suc n =
      over_plays-times f (suc n * 1000000 * q ^ n) ∙ ap (λ x. x * (suc n * 1000000 * q ^ n)) (weights_sum u v hu hv)
      ∙ shuffle n q (q ^ n) ∙ ap (λ x. suc n * 1000000 * x) (sym (pow-succ' q n)) in
      rw (← all) (over_plays-le _ _ each)
    where
      shuffle : (n q x : ℕ) → q * (suc n * 1000000 * x) ≡ suc n * 1000000 * (q * x)
      shuffle n q x = omega arith

-- ---- bounds of plain numbers
power-more : (q n : ℕ) → q ^ (n + 1) ≡ q * q ^ n
power-more q n = rw add-one (pow-succ' q n)

-- the room for one turn more is room for n turns, for the power, for what a play and n turns after it pay, and for that times a weight
module _ (q n : ℕ) (some : 1 ≤ q) (room : q ^ (n + 1) * (n + 1 + 1) * 1000000 < 2 ^ 126) where
  pub room_before : q ^ n * (n + 1) * 1000000 < 2 ^ 126
  room_before = omega (arith, rw power-more at room, mul-le-mul_right (q ^ n * (n + 1)) some)

  pub power_fits : q ^ n < 2 ^ 126
  power_fits = omega (arith, room_before)

  pub paid_fits : (p e : ℕ) → p ≤ 1000000 → e ≤ n * 1000000 * q ^ n → p * q ^ n + e < 2 ^ 126
  paid_fits p e hp he = omega (arith, room_before, one_turn_more p n (q ^ n) e hp he)

  pub part_fits : (w p e : ℕ) → w ≤ q → p ≤ 1000000 → e ≤ n * 1000000 * q ^ n → w * (p * q ^ n + e) < 2 ^ 126
  part_fits w p e hw hp he =
      let product : w * (p * q ^ n + e) ≤ q * (suc n * 1000000 * q ^ n) = mul-le-mul hw (one_turn_more p n (q ^ n) e hp he) in
      omega (arith, rw power-more at room, product)

pub unit-some : (d e : ℕ) → 1 ≤ d → 1 ≤ e → 1 ≤ d * e
unit-some d e h k = mul-le-mul h k

pub unit-few : (d e : ℕ) → d ≤ 1000 → e ≤ 1000 → d * e ≤ 1000000
unit-few d e h k = mul-le-mul h k
