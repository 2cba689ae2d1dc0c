-- Arrays of another length than four are no rows.
use Rattle.std.proofs.Common.{◌≡◌, ◌<◌, ◌≤◌, List, [], ◌∷◌, length, None, refl, arith}
use Rattle.toml.specs.declared.value.Value.{Value}
use Rattle.toml.specs.View.{items_view}
use Rattle.strategy_file.specs.TomlRows.{row_of}

pub no_row_short : (vs : List Value) → length vs < 4 → None ≡ row_of (items_view vs)
no_row_short [] h = refl
no_row_short (a ∷ []) h = refl
no_row_short (a ∷ b ∷ []) h = refl
no_row_short (a ∷ b ∷ c ∷ []) h = refl
no_row_short (a ∷ b ∷ c ∷ d ∷ vs) h = absurd (omega arith)

pub no_row_long : (vs : List Value) → 5 ≤ length vs → None ≡ row_of (items_view vs)
no_row_long [] h = absurd (omega arith)
no_row_long (a ∷ []) h = absurd (omega arith)
no_row_long (a ∷ b ∷ []) h = absurd (omega arith)
no_row_long (a ∷ b ∷ c ∷ []) h = absurd (omega arith)
no_row_long (a ∷ b ∷ c ∷ d ∷ []) h = absurd (omega arith)
no_row_long (a ∷ b ∷ c ∷ d ∷ e ∷ vs) h = refl
