-- The entries of a tournament and the pairs that meet.
use Rattle.std.specs.Prelude.{ℕ, ◌≡◌, ◌⊎◌, ◌↔◌, ◌+◌, ◌^◌, ◌≤◌, ◌<◌, All, Bool, IsTrue, List, false, length, map, slice_index_or}
use Rattle.history_model.specs.Automaton.{Automaton, IsAutomaton, IsSure}
use Rattle.history_model.specs.Noise.{FlipRate, IsFlipRate}
use Rattle.player_core.specs.State.{Lasting, nobody}
use Rattle.player_core.specs.Entry.{entry_automaton}
use Rattle.match_play.specs.Known.{IsKnown}
use Rattle.product_chain.specs.Expected.{IsSureMatch}
use Rattle.sheet_rules.specs.declared.contestant.Contestant.{Contestant}
use Rattle.sheet_rules.specs.Entrants.{Entrant, automaton_of_entrant}

-- what an entry plays: an automaton, and the chance with which its moves are flipped
pub record Strategy : Type 0 where
  pub automaton : Automaton
  pub noise : FlipRate

pub record IsStrategy (s : Strategy) : Type 0 where
  pub automaton : IsAutomaton s.automaton
  pub noise : IsFlipRate s.noise

-- it draws no lots, and no move of it is flipped
pub record IsSureStrategy (s : Strategy) : Type 0 where
  pub automaton : IsSure s.automaton
  pub still : s.noise.n ≡ 0

-- what stands where there is no entry
abbrev pub no_strategy : Strategy
no_strategy = record { automaton = nobody.automaton; noise = record { n = 0; e = 1 } }

abbrev pub strategy_at : List Strategy → ℕ → Strategy
strategy_at strategies i = slice_index_or strategies i no_strategy

-- of each strategy it is told whether it is sure
pub record AreTold (strategies : List Strategy) (sure : List Bool) : Type 0 where
  pub whole : length strategies ≤ length sure
  pub each : (i : ℕ) → i < length strategies → IsTrue (slice_index_or sure i false) ↔ IsSureStrategy (strategy_at strategies i)

-- what a contestant plays on a bench
abbrev pub strategy_of : List Lasting → Contestant → Strategy
strategy_of players contestant = record { automaton = entry_automaton players contestant.sheet.now; noise = contestant.noise.now }

-- what all contestants play, in their order
abbrev pub strategies_of : List Lasting → List Contestant → List Strategy
strategies_of players contestants = map (strategy_of players) contestants

-- what an entrant plays on a bench, and the noise of its moves
abbrev pub strategy_of_entrant : List Lasting → Entrant → Strategy
strategy_of_entrant players entrant = record { automaton = automaton_of_entrant players entrant; noise = entrant.noise }

-- what all of them play, in their order
abbrev pub entrant_strategies : List Lasting → List Entrant → List Strategy
entrant_strategies players entrants = map (strategy_of_entrant players) entrants

-- the bench has a player for a contestant
abbrev pub IsContestant : List Lasting → Contestant → Type 0
IsContestant players contestant = IsKnown players contestant.sheet.now

-- 1 to 64 contestants
pub record AreContestants (players : List Lasting) (contestants : List Contestant) : Type 0 where
  pub some : 1 ≤ length contestants
  pub few : length contestants ≤ 64
  pub each : All (IsContestant players) contestants

-- two places among so many, the smaller first
pub record IsPair (count : ℕ) (pair : ℕ × ℕ) : Type 0 where
  pub ordered : pair.0 ≤ pair.1
  pub inside : pair.1 < count

-- by the first place, and by the second where the first are equal
abbrev pub IsBefore : ℕ × ℕ → ℕ × ℕ → Type 0
IsBefore p q = (p.0 < q.0) ⊎ ((p.0 ≡ q.0) × (p.1 < q.1))

abbrev pub pair_at : List (ℕ × ℕ) → ℕ → ℕ × ℕ
pair_at pairs k = slice_index_or pairs k (0, 0)

-- pairs of so many places, in strictly ascending order
pub record ArePairs (count : ℕ) (pairs : List (ℕ × ℕ)) : Type 0 where
  pub each : All (IsPair count) pairs
  pub ascending : (k : ℕ) → k + 1 < length pairs → IsBefore (pair_at pairs k) (pair_at pairs (k + 1))

abbrev pub IsSurePair : List Strategy → ℕ × ℕ → Type 0
IsSurePair strategies pair =
    let left = strategy_at strategies pair.0 in
    let right = strategy_at strategies pair.1 in
    IsSureMatch left.automaton left.noise right.automaton right.noise

-- a sure match has at most 10^12 turns, any other at most 10,000
pub record IsShort (a b : Strategy) (turns : ℕ) : Type 0 where
  pub sure : IsSureMatch a.automaton a.noise b.automaton b.noise → turns ≤ 10 ^ 12
  pub unsure : (IsSureMatch a.automaton a.noise b.automaton b.noise → ⊥) → turns ≤ 10000

-- so has the match of a pair
abbrev pub AreFewTurns : List Strategy → ℕ → ℕ × ℕ → Type 0
AreFewTurns strategies turns pair = IsShort (strategy_at strategies pair.0) (strategy_at strategies pair.1) turns
