-- What the line of a match of two entrants must say.
use Rattle.std.specs.Prelude.{ℕ, ◌≡◌, ◌*◌, ℤ, pos, ◌-ℤ◌, List, Option, Some, None}
use Rattle.history_model.specs.Game.{Payoffs}
use Rattle.history_model.specs.History.{History}
use Rattle.history_model.specs.Tally.{counts, left_points, right_points}
use Rattle.history_model.specs.declared.tally.Tally.{Tally}
use Rattle.player_core.specs.State.{Lasting}
use Rattle.fixed_span.specs.Span.{Holds, IsWithin, point, score_units}
use Rattle.result_lines.specs.declared.line.MatchLine.{MatchLine}
use Rattle.product_chain.specs.Expected.{IsTight}
use Rattle.sheet_rules.specs.ByRule.{IsOnlyByRules}
use Rattle.sheet_rules.specs.Entrants.{Entrant, IsSurePair, expects_in, rule_player}

-- the units of a score of so many points, where each payoff is less by an offset
abbrev pub units_paid : ℕ → ℕ → ℕ → ℤ
units_paid offset turns points = pos (points * score_units) -ℤ pos (offset * turns * score_units)

-- a sure match: the counts of the one history in which every move follows both entrants' own rules, and the scores of these counts
pub record IsRightPlayed (players : List Lasting) (game : Payoffs) (offset : ℕ) (left right : Entrant) (line : MatchLine) (tally : Tally) : Type 0 where
  pub sure : IsSurePair players left right
  pub history : History
  pub by_rules : IsOnlyByRules (rule_player players left) (rule_player players right) line.turns history
  pub plays : tally ≡ counts history
  pub left_score : line.left_score ≡ point (units_paid offset line.turns (left_points game tally))
  pub right_score : line.right_score ≡ point (units_paid offset line.turns (right_points game tally))

-- any other: each span holds what its side expects, and is at most as many units wide as there are turns, mostly 1 or 2
pub record IsRightMixed (players : List Lasting) (game : Payoffs) (offset : ℕ) (left right : Entrant) (line : MatchLine) : Type 0 where
  pub unsure : IsSurePair players left right → ⊥
  pub left_holds : Holds score_units line.left_score (expects_in players game offset line.turns left right)
  pub right_holds : Holds score_units line.right_score (expects_in players game offset line.turns right left)
  pub left_width : IsWithin line.turns line.left_score
  pub right_width : IsWithin line.turns line.right_score
  pub left_tight : IsTight game line.turns line.left_score
  pub right_tight : IsTight game line.turns line.right_score

abbrev pub IsRightScore : List Lasting → Payoffs → ℕ → Entrant → Entrant → MatchLine → Option Tally → Type 0
IsRightScore players game offset left right line (Some tally) = IsRightPlayed players game offset left right line tally
IsRightScore players game offset left right line None = IsRightMixed players game offset left right line

-- the line has counts exactly where the match is sure
abbrev pub IsRightLine : List Lasting → Payoffs → ℕ → Entrant → Entrant → MatchLine → Type 0
IsRightLine players game offset left right line = IsRightScore players game offset left right line line.tally
