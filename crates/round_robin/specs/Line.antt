-- What the line of a match must say.
use Rattle.std.specs.Prelude.{ℕ, ◌≡◌, ◌*◌, pos, Option, Some, None}
use Rattle.history_model.specs.Automaton.{Automaton}
use Rattle.history_model.specs.Expectation.{player}
use Rattle.history_model.specs.Game.{Payoffs}
use Rattle.history_model.specs.Noise.{FlipRate}
use Rattle.history_model.specs.Path.{match_path}
use Rattle.history_model.specs.Tally.{counts, left_points, right_points}
use Rattle.history_model.specs.declared.tally.Tally.{Tally}
use Rattle.fixed_span.specs.Span.{Ends, Holds, IsWithin, point, score_units}
use Rattle.result_lines.specs.declared.line.MatchLine.{MatchLine}
use Rattle.product_chain.specs.Expected.{expected_score, IsPayable, IsSharp, IsSureMatch, IsTight}

-- the span of what a expects against b in n turns: it holds the exact fraction, and is narrow
pub record IsExpected (a : Automaton) (na : FlipRate) (b : Automaton) (nb : FlipRate) (game : Payoffs) (n : ℕ) (span : Ends) : Type 0 where
  pub holds : Holds score_units span (expected_score (player a) na (player b) nb game 0 n)
  pub width : IsWithin n span
  pub narrow : IsTight game n span
  pub payable : IsPayable game n span
  pub one_turn : n ≡ 1 → IsSharp score_units span (expected_score (player a) na (player b) nb game 0 n)

-- a sure match: how often each play came in it, and what both are paid for these
pub record IsPlayed (a : Automaton) (na : FlipRate) (b : Automaton) (nb : FlipRate) (game : Payoffs) (n : ℕ) (line : MatchLine) (tally : Tally) : Type 0 where
  pub sure : IsSureMatch a na b nb
  pub plays : tally ≡ counts (match_path a b n)
  pub left : line.left_score ≡ point (pos (left_points game tally * score_units))
  pub right : line.right_score ≡ point (pos (right_points game tally * score_units))

-- a match that isn't sure: what both expect
pub record IsMixed (a : Automaton) (na : FlipRate) (b : Automaton) (nb : FlipRate) (game : Payoffs) (n : ℕ) (line : MatchLine) : Type 0 where
  pub unsure : IsSureMatch a na b nb → ⊥
  pub left : IsExpected a na b nb game n line.left_score
  pub right : IsExpected b nb a na game n line.right_score

abbrev pub IsScored : Automaton → FlipRate → Automaton → FlipRate → Payoffs → ℕ → MatchLine → Option Tally → Type 0
IsScored a na b nb game n line (Some tally) = IsPlayed a na b nb game n line tally
IsScored a na b nb game n line None = IsMixed a na b nb game n line

-- the line of n turns of a against b: it has counts exactly where the match is sure
abbrev pub IsLineOf : Automaton → FlipRate → Automaton → FlipRate → Payoffs → ℕ → MatchLine → Type 0
IsLineOf a na b nb game n line = IsScored a na b nb game n line line.tally
