-- The lines of a tournament's matches.
use Rattle.std.specs.Prelude.{ℕ, ◌≡◌, All, List}
use Rattle.history_model.specs.Game.{Payoffs}
use Rattle.result_lines.specs.declared.line.MatchLine.{MatchLine}
use Rattle.result_lines.specs.Totals.{pairs_of}
use Rattle.round_robin.specs.Contest.{Strategy, strategy_at}
use Rattle.round_robin.specs.Laws.{AreSides}
use Rattle.round_robin.specs.Line.{IsLineOf}

-- the line of n turns between the entries at its places
pub record IsLineBetween (strategies : List Strategy) (game : Payoffs) (n : ℕ) (line : MatchLine) : Type 0 where
  pub sides : let left = strategy_at strategies line.left in
      let right = strategy_at strategies line.right in
      AreSides left.automaton left.noise right.automaton right.noise
  pub turns : line.turns ≡ n
  pub is : let left = strategy_at strategies line.left in
      let right = strategy_at strategies line.right in
      IsLineOf left.automaton left.noise right.automaton right.noise game n line

-- a line of n turns for each pair, in the order of the pairs
pub record AreLines (strategies : List Strategy) (game : Payoffs) (n : ℕ) (pairs : List (ℕ × ℕ)) (lines : List MatchLine) : Type 0 where
  pub places : pairs_of lines ≡ pairs
  pub each : All (IsLineBetween strategies game n) lines
