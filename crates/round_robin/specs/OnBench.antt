-- Matches and tournaments on a bench, as contracts see it.
use Rattle.std.specs.Prelude.{ℕ, List}
use Rattle.history_model.specs.Automaton.{Automaton}
use Rattle.history_model.specs.Game.{Payoffs}
use Rattle.player_core.specs.State.{BenchState, players_of}
use Rattle.player_core.specs.Entry.{entry_on}
use Rattle.result_lines.specs.declared.line.MatchLine.{MatchLine}
use Rattle.product_chain.specs.Expected.{IsSureMatch}
use Rattle.sheet_rules.specs.declared.contestant.Contestant.{Contestant}
use Rattle.round_robin.specs.declared.entrant.Entrant.{Entrant}
use Rattle.round_robin.specs.Asked.{AreAsked, AtMostTurns, IsAsked, PairAsked, bench_turns, most_advances, most_for, most_of}
use Rattle.round_robin.specs.Contest.{Strategy, strategies_of}
use Rattle.round_robin.specs.Laws.{AreSides}
use Rattle.round_robin.specs.Line.{IsLineOf}

-- ---- a match of two entrants

-- what an entrant plays
abbrev pub plays_on : BenchState → Entrant → Automaton
plays_on bench entrant = entry_on bench entrant.sheet.now

-- neither draws lots, and no move is flipped
abbrev pub IsSureOn : BenchState → Entrant → Entrant → Type 0
IsSureOn bench left right = IsSureMatch (plays_on bench left) left.noise (plays_on bench right) right.noise

abbrev pub AreSidesOn : BenchState → Entrant → Entrant → Type 0
AreSidesOn bench left right = AreSides (plays_on bench left) left.noise (plays_on bench right) right.noise

abbrev pub IsLineOn : BenchState → Entrant → Entrant → Payoffs → ℕ → MatchLine → Type 0
IsLineOn bench left right game turns line = IsLineOf (plays_on bench left) left.noise (plays_on bench right) right.noise game turns line

-- the players of the bench were asked for it
abbrev pub IsAskedOn : BenchState → BenchState → Entrant → Entrant → ℕ → Type 0
IsAskedOn old new left right turns =
    IsAsked (plays_on old left) left.noise (plays_on old right) right.noise turns (bench_turns old) (bench_turns new)

-- no side of the bench made more advances than a match takes at most
abbrev pub AtMostOn : BenchState → BenchState → Entrant → Entrant → Type 0
AtMostOn old new left right = AtMostTurns (most_advances (plays_on old left) (plays_on old right)) (bench_turns old) (bench_turns new)

-- ---- a tournament

-- what all contestants play
abbrev pub strategies_on : BenchState → List Contestant → List Strategy
strategies_on bench contestants = strategies_of (players_of bench) contestants

-- the players of the bench were asked for the match of a pair
abbrev pub PairAskedOn : BenchState → BenchState → List Contestant → ℕ → ℕ × ℕ → Type 0
PairAskedOn old new contestants turns pair = PairAsked (strategies_on old contestants) turns pair (bench_turns old) (bench_turns new)

-- the players of the bench were asked for the matches of all pairs
abbrev pub AreAskedOn : BenchState → BenchState → List Contestant → ℕ → List (ℕ × ℕ) → Type 0
AreAskedOn old new contestants turns pairs = AreAsked (strategies_on old contestants) turns pairs (bench_turns old) (bench_turns new)

-- no side of the bench made more advances than the match of a pair takes at most
abbrev pub PairAtMostOn : BenchState → BenchState → List Contestant → ℕ × ℕ → Type 0
PairAtMostOn old new contestants pair = AtMostTurns (most_of (strategies_on old contestants) pair) (bench_turns old) (bench_turns new)

-- no side of the bench made more advances than the matches of all pairs take at most
abbrev pub AtMostForOn : BenchState → BenchState → List Contestant → List (ℕ × ℕ) → Type 0
AtMostForOn old new contestants pairs = AtMostTurns (most_for (strategies_on old contestants) pairs) (bench_turns old) (bench_turns new)
