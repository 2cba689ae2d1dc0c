-- Machine rows as they stand in a lab file.
use Rattle.std.specs.Prelude.{codes, ℕ, List, [], ◌∷◌, Option, Some, None, option_map, option_and_then, bytes_eq, if◌then◌else◌}
use Rattle.toml.specs.Data.{Data, Items, no_items, item, as_array, as_str}
use Rattle.history_model.specs.declared.moves.Move.{Move}
use Rattle.history_model.specs.declared.moves.Move.TheVariants.{C, D}
use Rattle.lab_keys.specs.Keys.{number_within}
use Rattle.machine_rows.specs.declared.transition.Transition.{Transition}

-- the move that a text names
abbrev pub move_of : List ℕ → Option Move
move_of text = if bytes_eq text (codes "C") then Some C else if bytes_eq text (codes "D") then Some D else None

abbrev pub move_in : Data → Option Move
move_in found = option_and_then move_of (as_str found)

-- a state is a whole number from 0 to 65535
abbrev pub last_state : ℕ
last_state = 65535

-- a row of four: state, heard, next, play
abbrev pub row_of : Items → Option Transition
row_of (item state (item heard (item next (item play no_items)))) =
    option_and_then (λ s. option_and_then (λ h. option_and_then (λ n. option_map (λ p. record { state = s; heard = h; next = n; play = p })
    (move_in play)) (number_within last_state next)) (move_in heard)) (number_within last_state state)
row_of _ = None

abbrev pub row_in : Data → Option Transition
row_in found = option_and_then row_of (as_array found)

-- the items as rows, each as far as it is one
abbrev pub rows_in : Items → List (Option Transition)
rows_in no_items = []
rows_in (item found rest) = row_in found ∷ rows_in rest
