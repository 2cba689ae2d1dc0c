-- The sheet of a finite machine, from its lists.
use Rattle.std.specs.Prelude.{ℕ, List, [], ◌∷◌}
use Rattle.history_model.specs.declared.moves.Move.{Move}
use Rattle.history_model.specs.declared.moves.Move.TheVariants.{C, D}
use Rattle.player_core.specs.declared.kind.Kind.TheVariants.{Machine}
use Rattle.player_core.specs.State.{no_name}
use Rattle.player_core.specs.Sheet.{SheetData}

-- 1 for C and 0 for D
abbrev pub weight_of : Move → ℕ
weight_of C = 1
weight_of D = 0

abbrev pub machine_with : Move → List ℕ → List ℕ → SheetData
machine_with opening table next =
    record { kind = Machine; den = 1; own = 0; other = 0; first = 0; opening = weight_of opening ∷ []; table = table; next = next; plug = no_name }
