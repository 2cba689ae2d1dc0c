-- Tables by turns left, from 1 on, and by row.
use Rattle.std.specs.Prelude.{ℕ, zero, suc, ◌+◌, ◌*◌, ℤ, pos, List, slice_index_or}
use Rattle.history_model.specs.declared.moves.Move.{Move}
use Rattle.history_model.specs.declared.moves.Move.TheVariants.{C}
use Rattle.history_model.specs.Game.{magnitude}
use Rattle.history_model.specs.Tree.{Plan}

-- the number at so many turns left and a row, of so many rows; 0 where no turn is left
abbrev pub cell_at : List ℤ → ℕ → ℕ → ℕ → ℕ
cell_at cells rows zero row = 0
cell_at cells rows (suc t) row = magnitude (slice_index_or cells (t * rows + row) (pos 0))

-- the plan that a table of moves is
abbrev pub move_at : List Move → ℕ → Plan
move_at moves rows zero row = C
move_at moves rows (suc t) row = slice_index_or moves (t * rows + row) C
