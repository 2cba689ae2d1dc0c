-- Automata as players: the sum over all histories is the recursion over pairs of rows.
use Rattle.std.proofs.Common.{ℕ, zero, suc, ◌+◌, ◌*◌, ◌^◌, ◌≡◌, ◌≤◌, ◌<◌, [], ◌∷◌, length, refl, ap, ◌∙◌, fold}
use Rattle.history_model.specs.declared.moves.Play.{Play}
use Rattle.history_model.specs.Game.{Payoffs, pay}
use Rattle.history_model.specs.Noise.{FlipRate}
use Rattle.history_model.specs.Automaton.{Automaton, IsAutomaton, weight_at, next_row}
use Rattle.history_model.specs.History.{History, turned_play}
use Rattle.history_model.specs.Expectation.{shown, expected_by_rows, AutomataAreWeighed, HistoriesAgreeWithRows}
use Rattle.history_model.proofs.Sums.{over_plays-same}
use Rattle.history_model.proofs.States.{by_states, expected_points-by_states}

pub next_row-within : (a : Automaton) (row : ℕ) (play : Play) → IsAutomaton a → row < length a.rows → next_row a row play < length a.rows
next_row-within a row play ok h = ok.closed row play.mine play.theirs h

weight-within : (a : Automaton) (row : ℕ) (history : History) → IsAutomaton a → row < length a.rows → weight_at a (fold (next_row a) row history) ≤ a.den
weight-within a row [] ok h = ok.weighed row h
weight-within a row (play ∷ rest) ok h = weight-within a (next_row a row play) rest ok (next_row-within a row play ok h)

pub automata_are_weighed_lem : AutomataAreWeighed
automata_are_weighed_lem a row ok h = record { within = λ history. weight-within a row history ok h }

module _ (a : Automaton) (na : FlipRate) (b : Automaton) (nb : FlipRate) (game : Payoffs) where
  by_rows : (n u v : ℕ) → by_states a.den (weight_at a) (next_row a) na b.den (weight_at b) (next_row b) nb game n u v ≡ expected_by_rows a na b nb game n u v
  by_rows zero u v = refl
  by_rows (suc n) u v = over_plays-same _ _ (λ play.
      ap (λ x. shown na a.den (weight_at a u) play.mine * shown nb b.den (weight_at b v) play.theirs * (pay game play.mine play.theirs * (a.den * na.e * (b.den * nb.e)) ^ n + x))
      (by_rows n (next_row a u play) (next_row b v (turned_play play))))

pub histories_agree_with_rows_lem : HistoriesAgreeWithRows
histories_agree_with_rows_lem a na b nb game n u v oka ra okb rb hu hv =
    expected_points-by_states a.den (weight_at a) (next_row a) na b.den (weight_at b) (next_row b) nb game u v
    (automata_are_weighed_lem a u oka hu) ra (automata_are_weighed_lem b v okb hv) rb n
    ∙ by_rows a na b nb game n u v
