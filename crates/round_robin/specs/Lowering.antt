-- The lines of a game whose payoffs are each less by an offset: what they hold, and what totals of them hold.
use Rattle.std.specs.Prelude.{ℕ, ◌≡◌, ◌↔◌, ◌≤◌, ◌<◌, ◌*◌, ◌^◌, pos, ◌-ℤ◌, ◌≤ℤ◌, All, List, length, map, Option, Some, None}
use Rattle.history_model.specs.Automaton.{Automaton}
use Rattle.history_model.specs.Expectation.{expectation, player, quotient}
use Rattle.history_model.specs.Game.{Payoffs, IsGame, least, most}
use Rattle.history_model.specs.History.{History, points, score}
use Rattle.history_model.specs.Noise.{FlipRate}
use Rattle.history_model.specs.Path.{match_path}
use Rattle.history_model.specs.Tally.{counts, left_points, right_points}
use Rattle.history_model.specs.declared.tally.Tally.{Tally}
use Rattle.fixed_span.specs.Span.{Ends, Fraction, Holds, IsWithin, point, score_units}
use Rattle.product_chain.specs.Expected.{expected_score, IsSharp, IsSureMatch, IsTight}
use Rattle.result_lines.specs.declared.line.MatchLine.{MatchLine}
use Rattle.result_lines.specs.declared.ranking.Rank.TheVariants.{At}
use Rattle.result_lines.specs.declared.tables.Totals.{Totals}
use Rattle.result_lines.specs.Lowered.{CanBeLowered, lowered}
use Rattle.result_lines.specs.Ranks.{rank_of}
use Rattle.result_lines.specs.Totals.{entries_of, pairs_of, total_of, totals_of}
use Rattle.sheet_rules.specs.RightLine.{units_paid}
use Rattle.round_robin.specs.Contest.{Strategy, ArePairs, strategy_at}
use Rattle.round_robin.specs.Laws.{AreSides}
use Rattle.round_robin.specs.Line.{IsLineOf}
use Rattle.round_robin.specs.Totals.{AreLines}
use Rattle.round_robin.specs.Truth.{HoldsExpected, true_rank, true_total, true_totals}

-- ---- the line of a match

-- the ends lie between what the least and what the greatest payoff give in n turns, less the offset for each
pub record IsPayableLess (game : Payoffs) (offset n : ℕ) (span : Ends) : Type 0 where
  pub low : units_paid offset n (n * least game) ≤ℤ span.lo
  pub high : span.hi ≤ℤ units_paid offset n (n * most game)

-- the span of what a expects against b in n turns where each payoff is less by the offset: it holds the exact fraction, and is narrow
pub record IsExpectedLess (a : Automaton) (na : FlipRate) (b : Automaton) (nb : FlipRate) (game : Payoffs) (offset n : ℕ) (span : Ends) : Type 0 where
  pub holds : Holds score_units span (expected_score (player a) na (player b) nb game offset n)
  pub width : IsWithin n span
  pub narrow : IsTight game n span
  pub payable : IsPayableLess game offset n span
  pub one_turn : n ≡ 1 → IsSharp score_units span (expected_score (player a) na (player b) nb game offset n)

-- a sure match: how often each play came in it, and what both are paid for these, less the offset for each turn
pub record IsPlayedLess (a : Automaton) (na : FlipRate) (b : Automaton) (nb : FlipRate) (game : Payoffs) (offset n : ℕ) (line : MatchLine) (tally : Tally) : Type 0 where
  pub sure : IsSureMatch a na b nb
  pub plays : tally ≡ counts (match_path a b n)
  pub left : line.left_score ≡ point (units_paid offset n (left_points game tally))
  pub right : line.right_score ≡ point (units_paid offset n (right_points game tally))

-- a match that isn't sure: what both expect
pub record IsMixedLess (a : Automaton) (na : FlipRate) (b : Automaton) (nb : FlipRate) (game : Payoffs) (offset n : ℕ) (line : MatchLine) : Type 0 where
  pub unsure : IsSureMatch a na b nb → ⊥
  pub left : IsExpectedLess a na b nb game offset n line.left_score
  pub right : IsExpectedLess b nb a na game offset n line.right_score

abbrev pub IsScoredLess : Automaton → FlipRate → Automaton → FlipRate → Payoffs → ℕ → ℕ → MatchLine → Option Tally → Type 0
IsScoredLess a na b nb game offset n line (Some tally) = IsPlayedLess a na b nb game offset n line tally
IsScoredLess a na b nb game offset n line None = IsMixedLess a na b nb game offset n line

-- the line of n turns of a against b where each payoff is less by the offset
abbrev pub IsLoweredLineOf : Automaton → FlipRate → Automaton → FlipRate → Payoffs → ℕ → ℕ → MatchLine → Type 0
IsLoweredLineOf a na b nb game offset n line = IsScoredLess a na b nb game offset n line line.tally

-- both scores of a line hold what the two expect
pub record HoldsLess (a : Automaton) (na : FlipRate) (b : Automaton) (nb : FlipRate) (game : Payoffs) (offset n : ℕ) (line : MatchLine) : Type 0 where
  pub left : Holds score_units line.left_score (expected_score (player a) na (player b) nb game offset n)
  pub right : Holds score_units line.right_score (expected_score (player b) nb (player a) na game offset n)

-- both scores of two lines are as wide
pub record AreAsWide (line other : MatchLine) : Type 0 where
  pub left : (width : ℕ) → IsWithin width line.left_score ↔ IsWithin width other.left_score
  pub right : (width : ℕ) → IsWithin width line.right_score ↔ IsWithin width other.right_score

-- the laws: an offset lowers what a history pays, and what is expected; so the line of a match that is lowered is the line of the
-- game with these payoffs, and holds what both expect there; it is as wide as it was
pub record LinesAreLowered : Type 0 where
  pub paid : (game : Payoffs) (offset : ℕ) (history : History) → score game offset history ≡ pos (points game history) -ℤ pos (offset * length history)
  pub expected : (a : Automaton) (na : FlipRate) (b : Automaton) (nb : FlipRate) (game : Payoffs) (offset n : ℕ) → AreSides a na b nb
      → expectation (player a) na (player b) nb game offset n
      ≡ expectation (player a) na (player b) nb game 0 n -ℤ pos (offset * n * quotient (player a) na (player b) nb ^ n)
  pub line : (a : Automaton) (na : FlipRate) (b : Automaton) (nb : FlipRate) (game : Payoffs) (offset n : ℕ) (line : MatchLine)
      → AreSides a na b nb → line.turns ≡ n → IsLineOf a na b nb game n line → IsLoweredLineOf a na b nb game offset n (lowered offset line)
  pub holds : (a : Automaton) (na : FlipRate) (b : Automaton) (nb : FlipRate) (game : Payoffs) (offset n : ℕ) (line : MatchLine)
      → AreSides a na b nb → line.turns ≡ n → IsLineOf a na b nb game n line → HoldsLess a na b nb game offset n (lowered offset line)
  pub wide : (offset : ℕ) (line : MatchLine) → AreAsWide line (lowered offset line)

-- ---- tournaments

-- the line of n turns between the entries at its places, where each payoff is less by the offset
pub record IsLoweredLineBetween (strategies : List Strategy) (game : Payoffs) (offset n : ℕ) (line : MatchLine) : Type 0 where
  pub sides : let left = strategy_at strategies line.left in
      let right = strategy_at strategies line.right in
      AreSides left.automaton left.noise right.automaton right.noise
  pub turns : line.turns ≡ n
  pub is : let left = strategy_at strategies line.left in
      let right = strategy_at strategies line.right in
      IsLoweredLineOf left.automaton left.noise right.automaton right.noise game offset n line

-- such a line for each pair, in the order of the pairs
pub record AreLoweredLines (strategies : List Strategy) (game : Payoffs) (offset n : ℕ) (pairs : List (ℕ × ℕ)) (lines : List MatchLine) : Type 0 where
  pub places : pairs_of lines ≡ pairs
  pub each : All (IsLoweredLineBetween strategies game offset n) lines

-- what one strategy expects against another in n turns where each payoff is less by the offset
abbrev pub expects_less : List Strategy → Payoffs → ℕ → ℕ → ℕ → ℕ → Fraction
expects_less strategies game offset n i j =
    let own = strategy_at strategies i in
    let other = strategy_at strategies j in
    expected_score (player own.automaton) own.noise (player other.automaton) other.noise game offset n

-- the totals and ranks of a tournament are true
pub record IsTrueLoweredTournament (strategies : List Strategy) (game : Payoffs) (offset n : ℕ) (pairs : List (ℕ × ℕ)) (lines : List MatchLine) : Type 0 where
  pub totals : (i : ℕ) → Holds score_units (total_of i lines) (true_total (expects_less strategies game offset n) pairs i)
  pub ranks : (i k : ℕ) → i < length strategies → rank_of (totals_of (length strategies) lines) i ≡ At k
      → true_rank (true_totals (expects_less strategies game offset n) pairs (length strategies)) i ≡ k

-- the law: those of every tournament whose lines are lowered are true of the game with these payoffs
abbrev pub LoweredTournamentsAreTrue : Type 0
LoweredTournamentsAreTrue =
    (strategies : List Strategy) (game : Payoffs) (offset n : ℕ) (pairs : List (ℕ × ℕ)) (lines : List MatchLine) →
    ArePairs (length strategies) pairs → AreLines strategies game n pairs lines →
    IsTrueLoweredTournament strategies game offset n pairs (map (lowered offset) lines)

-- the laws: the results of every tournament can be lowered; their lines are then those of the game with these payoffs, and hold what
-- is expected there
pub record TournamentsAreLowered : Type 0 where
  pub can_be : (strategies : List Strategy) (game : Payoffs) (n : ℕ) (pairs : List (ℕ × ℕ)) (results : Totals)
      → length strategies ≤ 64 → IsGame game → n ≤ 10 ^ 12 → ArePairs (length strategies) pairs → AreLines strategies game n pairs results.matches
      → results.entries ≡ entries_of (length strategies) results.matches → CanBeLowered results
  pub lines : (strategies : List Strategy) (game : Payoffs) (offset n : ℕ) (pairs : List (ℕ × ℕ)) (lines : List MatchLine)
      → AreLines strategies game n pairs lines → AreLoweredLines strategies game offset n pairs (map (lowered offset) lines)
  pub hold : (strategies : List Strategy) (game : Payoffs) (offset n : ℕ) (pairs : List (ℕ × ℕ)) (lines : List MatchLine)
      → AreLines strategies game n pairs lines → All (HoldsExpected (expects_less strategies game offset n)) (map (lowered offset) lines)
