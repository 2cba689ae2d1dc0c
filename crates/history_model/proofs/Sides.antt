-- What the second player expects is what the first expects of the payoffs to the other.
use Rattle.std.proofs.Common.{ℕ, zero, suc, ◌+◌, ◌*◌, ◌^◌, ◌≡◌, refl, ap, ◌∙◌, arith}
use Rattle.history_model.specs.declared.moves.Move.{Move}
use Rattle.history_model.specs.declared.moves.Move.TheVariants.{C, D}
use Rattle.history_model.specs.declared.moves.Play.{Play}
use Rattle.history_model.specs.Game.{Payoffs, pay}
use Rattle.history_model.specs.Noise.{FlipRate}
use Rattle.history_model.specs.Automaton.{Automaton, weight_at, next_row}
use Rattle.history_model.specs.History.{turned_play}
use Rattle.history_model.specs.Expectation.{shown, over_plays, expected_by_rows, turned_game, SidesAreAlike}
use Rattle.history_model.proofs.Sums.{over_plays-same}

pay-turned : (game : Payoffs) (mine theirs : Move) → pay game theirs mine ≡ pay (turned_game game) mine theirs
pay-turned game C C = refl
pay-turned game C D = refl
pay-turned game D C = refl
pay-turned game D D = refl

over_plays-turned : (f : Play → ℕ) → over_plays f ≡ over_plays (λ play. f (turned_play play))
over_plays-turned f = omega arith

term-turned : (x y p p' q q' e e' : ℕ) → p' ≡ p → q' ≡ q → e' ≡ e → y * x * (p' * q' + e') ≡ x * y * (p * q + e)
term-turned x y p p' q q' e e' hp hq he = rw (hp, hq, he) (omega arith)

pub quotient-turned : (a na b nb n : ℕ) → (b * nb * (a * na)) ^ n ≡ (a * na * (b * nb)) ^ n
quotient-turned a na b nb n = let e : b * nb * (a * na) ≡ a * na * (b * nb) = omega arith in ap (λ x. x ^ n) e

module _ (a : Automaton) (na : FlipRate) (b : Automaton) (nb : FlipRate) (game : Payoffs) where
  alike : (n u v : ℕ) → expected_by_rows b nb a na game n v u ≡ expected_by_rows a na b nb (turned_game game) n u v
  alike zero u v = refl
  alike (suc n) u v =
      over_plays-turned (λ play. shown nb b.den (weight_at b v) play.mine * shown na a.den (weight_at a u) play.theirs
      * (pay game play.mine play.theirs * (b.den * nb.e * (a.den * na.e)) ^ n + expected_by_rows b nb a na game n (next_row b v play) (next_row a u (turned_play play))))
      ∙ over_plays-same _ _ (λ play.
      term-turned (shown na a.den (weight_at a u) play.mine) (shown nb b.den (weight_at b v) play.theirs) _ _ _ _ _ _
      (pay-turned game play.mine play.theirs)
      (quotient-turned a.den na.e b.den nb.e n)
      (alike n (next_row a u play) (next_row b v (turned_play play))))

pub sides_are_alike_lem : SidesAreAlike
sides_are_alike_lem a na b nb game n u v = alike a na b nb game n u v
