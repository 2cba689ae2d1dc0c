-- What a player of a match expects, for the program that goes through all histories.
use Rattle.std.proofs.Common.{ℕ, zero, suc, ◌+◌, ◌-◌, ◌*◌, ◌^◌, ◌≡◌, ◌≢◌, ◌≤◌, ◌<◌, pos, length, refl, arith}
use Rattle.std.proofs.lemmas.Int.{ints}
use Rattle.history_model.specs.declared.moves.Move.TheVariants.{C, D}
use Rattle.history_model.specs.declared.whole.Match.{Match}
use Rattle.history_model.specs.Game.{Payoffs, IsGame}
use Rattle.history_model.specs.Noise.{FlipRate, IsFlipRate}
use Rattle.history_model.specs.Automaton.{Automaton, IsAutomaton}
use Rattle.history_model.specs.Expectation.{player, expectation, expected_by_rows}
use Rattle.history_model.specs.Whole.{AreSides, one_play, from_rows, from_play}
use Rattle.history_model.proofs.Bounds.{by_rows-most}
use Rattle.history_model.proofs.Offset.{offset_lowers_lem}
use Rattle.history_model.proofs.Rows.{automata_are_weighed_lem, histories_agree_with_rows_lem}

pub from_rows-by_play : (m : Match) (n u v : ℕ) {cc cd dc dd : ℕ} → n ≢ 0 → cc ≡ from_play m (n - 1) u v C C → cd ≡ from_play m (n - 1) u v C D
    → dc ≡ from_play m (n - 1) u v D C → dd ≡ from_play m (n - 1) u v D D → cc + cd + dc + dd ≡ from_rows m n u v
from_rows-by_play m zero u v some h1 h2 h3 h4 = absurd (some refl)
from_rows-by_play m (suc n) u v some h1 h2 h3 h4 =
    let e : suc n - 1 ≡ n = omega arith in
    rw (h1, h2, h3, h4, e) refl

pub from_rows-most : (m : Match) (n u v : ℕ) → AreSides m → IsGame m.game.now → u < length m.a.now.rows → v < length m.b.now.rows
    → from_rows m n u v ≤ n * 1000000 * one_play m ^ n
from_rows-most m n u v ok game hu hv =
    by_rows-most m.a.now m.a_noise.now m.b.now m.b_noise.now m.game.now ok.own ok.own_rate ok.other ok.other_rate game n u v hu hv

-- without an offset the recursion from the starts is the expectation
pub expectation_is : (a : Automaton) (na : FlipRate) (b : Automaton) (nb : FlipRate) (game : Payoffs) (n : ℕ)
    → IsAutomaton a → IsFlipRate na → IsAutomaton b → IsFlipRate nb
    → pos (expected_by_rows a na b nb game n a.start b.start) ≡ expectation (player a) na (player b) nb game 0 n
expectation_is a na b nb game n oka ra okb rb =
    let agree = histories_agree_with_rows_lem a na b nb game n a.start b.start oka ra okb rb oka.started okb.started in
    let lowered = offset_lowers_lem (player a) na (player b) nb game 0 n
    (automata_are_weighed_lem a a.start oka oka.started) ra (automata_are_weighed_lem b b.start okb okb.started) rb in
    omega (arith, ints, agree, lowered)
