-- Matches and tournaments of entrants, by the rules of their sheets.
use Rattle.std.specs.Prelude.{ℕ, ◌≡◌, ◌*◌, ◌≤◌, ◌<◌, All, List, length, map, slice_index_or, neg_ℤ, pos, ◌≤ℤ◌, ◌^◌, IfSome}
use Rattle.history_model.specs.Automaton.{Automaton, IsAutomaton}
use Rattle.history_model.specs.Expectation.{ChooseAlike, player}
use Rattle.history_model.specs.Game.{Payoffs}
use Rattle.player_core.specs.State.{BenchState, Lasting, players_of}
use Rattle.player_core.specs.Sheet.{IsSheet}
use Rattle.match_play.specs.Known.{IsKnown}
use Rattle.history_model.specs.Tally.{total}
use Rattle.fixed_span.specs.Span.{Ends, Fraction, Holds, score_units}
use Rattle.result_lines.specs.declared.line.MatchLine.{MatchLine}
use Rattle.result_lines.specs.declared.ranking.Rank.TheVariants.{At}
use Rattle.result_lines.specs.declared.tables.EntryLine.{EntryLine}
use Rattle.result_lines.specs.Lowered.{lowered}
use Rattle.result_lines.specs.Totals.{entries_of, pairs_of}
use Rattle.sheet_rules.specs.Entrants.{Entrant, automaton_of_entrant, entrant_at, expects_at, rule_player}
use Rattle.sheet_rules.specs.RightLine.{IsRightLine}
use Rattle.round_robin.specs.Asked.{AreAsked, AtMostTurns, IsAsked, bench_turns, most_advances, most_for}
use Rattle.round_robin.specs.Contest.{ArePairs, IsPair, IsShort, entrant_strategies, strategy_of_entrant}
use Rattle.round_robin.specs.Laws.{AreSides}
use Rattle.round_robin.specs.Line.{IsLineOf}
use Rattle.round_robin.specs.Totals.{AreLines}
use Rattle.round_robin.specs.Truth.{nothing, true_rank, true_totals}

-- ---- who takes part

-- an entrant whose sheet is valid, and for which the bench has a player
pub record IsEntry (players : List Lasting) (entrant : Entrant) : Type 0 where
  pub valid : IsSheet entrant.sheet
  pub known : IsKnown players entrant.sheet

-- 1 to 64 of them
pub record AreEntries (players : List Lasting) (entrants : List Entrant) : Type 0 where
  pub some : 1 ≤ length entrants
  pub few : length entrants ≤ 64
  pub each : All (IsEntry players) entrants

-- the match of a pair of them has at most 10^12 turns if it is sure, any other at most 10,000
abbrev pub IsShortPair : List Lasting → List Entrant → ℕ → ℕ × ℕ → Type 0
IsShortPair players entrants turns pair =
    IsShort (strategy_of_entrant players (entrant_at entrants pair.0)) (strategy_of_entrant players (entrant_at entrants pair.1)) turns

-- ---- what is told of them

-- the line of a match of so many turns between the entrants at its places is right
pub record IsRightAmong (players : List Lasting) (game : Payoffs) (offset turns : ℕ) (entrants : List Entrant) (line : MatchLine) : Type 0 where
  pub pair : IsPair (length entrants) (line.left, line.right)
  pub turns_are : line.turns ≡ turns
  pub score : IsRightLine players game offset (entrant_at entrants line.left) (entrant_at entrants line.right) line

-- a right line for each pair, in the order of the pairs
pub record AreRightLines (players : List Lasting) (game : Payoffs) (offset turns : ℕ) (entrants : List Entrant) (pairs : List (ℕ × ℕ)) (lines : List MatchLine) : Type 0 where
  pub places : pairs_of lines ≡ pairs
  pub each : All (IsRightAmong players game offset turns entrants) lines

-- the line of an entry: its total holds the true total, and a rank that is told is the true rank
pub record IsRightEntry (totals : List Fraction) (place : ℕ) (entry : EntryLine) : Type 0 where
  pub total : Holds score_units entry.total (slice_index_or totals place nothing)
  pub rank : (k : ℕ) → entry.rank ≡ At k → true_rank totals place ≡ k

-- the lines of so many entries
abbrev pub AreRightEntries : List Fraction → ℕ → List EntryLine → Type 0
AreRightEntries totals count entries =
    (place : ℕ) (none : EntryLine) → place < count → IsRightEntry totals place (slice_index_or entries place none)

-- the true totals of entrants, by the rules of their sheets
abbrev pub totals_by_rule : List Lasting → Payoffs → ℕ → ℕ → List Entrant → List (ℕ × ℕ) → List Fraction
totals_by_rule players game offset turns entrants pairs = true_totals (expects_at players game offset turns entrants) pairs (length entrants)

-- the two ends of a score of n turns where each payoff is less by an offset
pub record IsScoreLess (offset n : ℕ) (span : Ends) : Type 0 where
  pub low : neg_ℤ (pos (offset * n * score_units)) ≤ℤ span.lo
  pub ordered : span.lo ≤ℤ span.hi
  pub high : span.hi ≤ℤ pos (10 ^ 30)

-- the scores of such a match are in range, and its counts make up the turns
pub record IsInRangeLess (offset n : ℕ) (line : MatchLine) : Type 0 where
  pub left : IsScoreLess offset n line.left_score
  pub right : IsScoreLess offset n line.right_score
  pub counted : IfSome line.tally (λ tally. total tally ≡ n)

-- ---- what they are asked

-- the players of the bench were asked for the match of two entrants
abbrev pub EntryAskedOn : BenchState → BenchState → Entrant → Entrant → ℕ → Type 0
EntryAskedOn old new left right turns =
    IsAsked (automaton_of_entrant (players_of old) left) left.noise (automaton_of_entrant (players_of old) right) right.noise turns (bench_turns old) (bench_turns new)

-- no side made more advances than it takes at most
abbrev pub EntryAtMostOn : BenchState → BenchState → Entrant → Entrant → Type 0
EntryAtMostOn old new left right =
    AtMostTurns (most_advances (automaton_of_entrant (players_of old) left) (automaton_of_entrant (players_of old) right)) (bench_turns old) (bench_turns new)

-- the players of the bench were asked for the matches of all pairs
abbrev pub EntriesAskedOn : BenchState → BenchState → List Entrant → ℕ → List (ℕ × ℕ) → Type 0
EntriesAskedOn old new entrants turns pairs = AreAsked (entrant_strategies (players_of old) entrants) turns pairs (bench_turns old) (bench_turns new)

-- no side made more advances than these take at most
abbrev pub EntriesAtMostOn : BenchState → BenchState → List Entrant → List (ℕ × ℕ) → Type 0
EntriesAtMostOn old new entrants pairs = AtMostTurns (most_for (entrant_strategies (players_of old) entrants) pairs) (bench_turns old) (bench_turns new)

-- ---- a grid

-- what an entrant plays, as a grid: after every history it has the weight, over the denominator, that the rule of the sheet gives
pub record IsGridOf (players : List Lasting) (entrant : Entrant) (grid : Automaton) : Type 0 where
  pub valid : IsAutomaton grid
  pub plays : grid ≡ automaton_of_entrant players entrant
  pub rule : ChooseAlike (player grid) (rule_player players entrant)

-- ---- laws

-- the lines of matches are right, and the totals and ranks that they give are true, all by rule
pub record IsTrueByRule (players : List Lasting) (game : Payoffs) (offset turns : ℕ) (entrants : List Entrant) (pairs : List (ℕ × ℕ)) (lines : List MatchLine) : Type 0 where
  pub lines_right : AreRightLines players game offset turns entrants pairs lines
  pub entries_right : AreRightEntries (totals_by_rule players game offset turns entrants pairs) (length entrants) (entries_of (length entrants) lines)

-- the laws: a line between what two entrants play is right where it is lowered by an offset; and what is told of a tournament is true
pub record EntriesAreTrue : Type 0 where
  pub line : (players : List Lasting) (left right : Entrant) (game : Payoffs) (offset : ℕ) (line : MatchLine) → IsSheet left.sheet → IsSheet right.sheet
      → AreSides (automaton_of_entrant players left) left.noise (automaton_of_entrant players right) right.noise
      → IsLineOf (automaton_of_entrant players left) left.noise (automaton_of_entrant players right) right.noise game line.turns line
      → IsRightLine players game offset left right (lowered offset line)
  pub tournament : (players : List Lasting) (game : Payoffs) (offset turns : ℕ) (entrants : List Entrant) (pairs : List (ℕ × ℕ)) (lines : List MatchLine)
      → All (IsEntry players) entrants → ArePairs (length entrants) pairs → AreLines (entrant_strategies players entrants) game turns pairs lines
      → IsTrueByRule players game offset turns entrants pairs (map (lowered offset) lines)
