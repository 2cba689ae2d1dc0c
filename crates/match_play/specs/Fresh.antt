-- How long a sure match meets only pairs of rows that it has not met before.
use Rattle.std.specs.Prelude.{ℕ, ◌≢◌, ◌≤◌, ◌<◌}
use Rattle.history_model.specs.Automaton.{Automaton}
use Rattle.history_model.specs.History.{turned, walk}
use Rattle.history_model.specs.Path.{match_path}

-- the rows of both players after some turns of a match, which are those at which the next play begins
pub record RowPair : Type 0 where
  pub left : ℕ
  pub right : ℕ

abbrev pub rows_after : Automaton → Automaton → ℕ → RowPair
rows_after a b turns =
    record { left = walk a a.start (match_path a b turns); right = walk b b.start (turned (match_path a b turns)) }

-- the pairs of rows at which the first j plays of a match begin all differ, and the match is as long
pub record IsFresh (a b : Automaton) (turns j : ℕ) : Type 0 where
  pub within : j ≤ turns
  pub differ : (i k : ℕ) → i < k → k < j → rows_after a b i ≢ rows_after a b k
