-- Backward induction over rows, in units, rounded up and down.
use Rattle.std.specs.Prelude.{ℕ, zero, suc, ◌+◌, ◌-◌, ◌/◌, ◌%◌, ◌≡◌, ◌<◌, ℤ, pos, max, List, length, slice_index, slice_index_or, nat_le, if◌then◌else◌}
use Rattle.history_model.specs.declared.moves.Move.{Move}
use Rattle.history_model.specs.declared.moves.Move.TheVariants.{C, D}
use Rattle.fixed_span.specs.Span.{score_units}
use Rattle.best_turns.specs.declared.induction.Found.{Found}
use Rattle.best_turns.specs.declared.induction.Layer.{Layer}
use Rattle.strategy_trees.specs.Contest.{Contest, rows, one_play, worth}

abbrev pub best_worth : Contest → (ℕ → ℕ) → ℕ → ℕ
best_worth c next row = max (worth c score_units next row C) (worth c score_units next row D)

-- C where it is worth at least as much
abbrev pub choice : ℕ → ℕ → Move
choice if_c if_d = if nat_le if_d if_c then C else D

abbrev pub choice_at : Contest → (ℕ → ℕ) → ℕ → Move
choice_at c next row = choice (worth c score_units next row C) (worth c score_units next row D)

-- x / q, rounded up
abbrev pub ceiling : ℕ → ℕ → ℕ
ceiling x q = (x + (q - 1)) / q

-- with so many turns left at a row
unfoldable pub upper_of : Contest → ℕ → ℕ → ℕ
upper_of c zero row = 0
upper_of c (suc t) row = ceiling (best_worth c (upper_of c t) row) (one_play c)

unfoldable pub lower_of : Contest → ℕ → ℕ → ℕ
lower_of c zero row = 0
lower_of c (suc t) row = best_worth c (lower_of c t) row / one_play c

unfoldable pub plan_of : Contest → ℕ → ℕ → Move
plan_of c zero row = C
plan_of c (suc t) row = choice_at c (lower_of c t) row

-- one number for each row, as far as the first n rows
pub record HasCells (f : ℕ → ℕ) (rows n : ℕ) (cells : List ℕ) : Type 0 where
  pub size : length cells ≡ rows
  pub each : (row : ℕ) → row < n → slice_index cells row ≡ f row

-- the numbers with t turns left, as far as the first n rows
pub record HasLayer (c : Contest) (t n : ℕ) (layer : Layer) : Type 0 where
  pub high : HasCells (upper_of c t) (rows c) n layer.uppers.items
  pub low : HasCells (lower_of c t) (rows c) n layer.lowers.items

-- a table as far as its first n places, by turns left from 1 on and by row
pub record HasNumbers (f : ℕ → ℕ → ℕ) (rows n : ℕ) (numbers : List ℤ) : Type 0 where
  pub size : length numbers ≡ n
  pub each : (k : ℕ) → k < n → slice_index_or numbers k (pos 0) ≡ pos (f (k / rows + 1) (k % rows))

pub record HasMoves (f : ℕ → ℕ → Move) (rows n : ℕ) (moves : List Move) : Type 0 where
  pub size : length moves ≡ n
  pub each : (k : ℕ) → k < n → slice_index_or moves k C ≡ f (k / rows + 1) (k % rows)

pub record AreFound (c : Contest) (n : ℕ) (found : Found) : Type 0 where
  pub high : HasNumbers (upper_of c) (rows c) n found.uppers.items
  pub low : HasNumbers (lower_of c) (rows c) n found.lowers.items
  pub plan : HasMoves (plan_of c) (rows c) n found.moves.items
