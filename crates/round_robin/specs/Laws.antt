-- The law that ties sure matches to expectations.
use Rattle.std.specs.Prelude.{ℕ, ◌≡◌, ◌*◌, ◌^◌, ◌≤◌, pos, IfSome}
use Rattle.history_model.specs.Automaton.{Automaton, IsAutomaton}
use Rattle.history_model.specs.Expectation.{player, quotient, expectation}
use Rattle.history_model.specs.Game.{Payoffs, IsGame}
use Rattle.history_model.specs.Noise.{FlipRate, IsFlipRate}
use Rattle.history_model.specs.Path.{match_path}
use Rattle.history_model.specs.Tally.{counts, total, left_points, right_points}
use Rattle.fixed_span.specs.Span.{Holds, score_units}
use Rattle.result_lines.specs.declared.line.MatchLine.{MatchLine}
use Rattle.product_chain.specs.Expected.{expected_score, IsSureMatch}
use Rattle.result_lines.specs.Totals.{IsScoreSpan}
use Rattle.round_robin.specs.Line.{IsLineOf}

-- two automata and the chances with which their moves are flipped
pub record AreSides (a : Automaton) (na : FlipRate) (b : Automaton) (nb : FlipRate) : Type 0 where
  pub left : IsAutomaton a
  pub left_rate : IsFlipRate na
  pub right : IsAutomaton b
  pub right_rate : IsFlipRate nb

-- the points of a sure match are what both expect
pub record ArePointsExpected (a : Automaton) (na : FlipRate) (b : Automaton) (nb : FlipRate) (game : Payoffs) (n : ℕ) : Type 0 where
  pub left : expectation (player a) na (player b) nb game 0 n
      ≡ pos (left_points game (counts (match_path a b n)) * quotient (player a) na (player b) nb ^ n)
  pub right : expectation (player b) nb (player a) na game 0 n
      ≡ pos (right_points game (counts (match_path a b n)) * quotient (player b) nb (player a) na ^ n)

-- both scores of a line hold what the two expect
pub record HoldsExpectations (a : Automaton) (na : FlipRate) (b : Automaton) (nb : FlipRate) (game : Payoffs) (n : ℕ) (line : MatchLine) : Type 0 where
  pub left : Holds score_units line.left_score (expected_score (player a) na (player b) nb game 0 n)
  pub right : Holds score_units line.right_score (expected_score (player b) nb (player a) na game 0 n)

-- the scores of a match of n turns are in range, and its counts make up the turns
pub record IsInRange (n : ℕ) (line : MatchLine) : Type 0 where
  pub left : IsScoreSpan line.left_score
  pub right : IsScoreSpan line.right_score
  pub counted : IfSome line.tally (λ tally. total tally ≡ n)

-- the laws: a sure match pays as both expect, so every line of a match holds what both expect; and it is in range
pub record LinesHold : Type 0 where
  pub sure : (a : Automaton) (na : FlipRate) (b : Automaton) (nb : FlipRate) (game : Payoffs) (n : ℕ)
      → AreSides a na b nb → IsSureMatch a na b nb → ArePointsExpected a na b nb game n
  pub line : (a : Automaton) (na : FlipRate) (b : Automaton) (nb : FlipRate) (game : Payoffs) (n : ℕ) (line : MatchLine)
      → AreSides a na b nb → IsLineOf a na b nb game n line → HoldsExpectations a na b nb game n line
  pub range : (a : Automaton) (na : FlipRate) (b : Automaton) (nb : FlipRate) (game : Payoffs) (n : ℕ) (line : MatchLine)
      → AreSides a na b nb → IsGame game → n ≤ 10 ^ 12 → IsLineOf a na b nb game n line → IsInRange n line
