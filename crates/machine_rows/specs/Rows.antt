-- The rows of a finite machine, and the sheet that they make.
use Rattle.std.specs.Prelude.{ℕ, ◌+◌, ◌&&◌, ◌==◌, Bool, true, false, nat_eq, nat_lt, is_some, find, position, fold, flat_map, map, unwrap_or, List, [], ◌∷◌, ◌++◌, length, Option, Some, None, Result, Ok, Err, if◌then◌else◌}
use Rattle.std.specs.List.{list_all, list_any}
use Rattle.indexmap.specs.IndexSet.{insert_key}
use Rattle.history_model.specs.declared.moves.Move.{Move}
use Rattle.history_model.specs.declared.moves.Move.TheVariants.{C, D}
use Rattle.player_core.specs.Sheet.{SheetData}
use Rattle.refusals.specs.declared.refusal.Refusal.{Refusal}
use Rattle.refusals.specs.declared.refusal.Refusal.TheVariants.{BadRows, TooManyRows}
use Rattle.refusals.specs.Refusing.{◌>>=◌}
use Rattle.machine_rows.specs.declared.transition.Transition.{Transition}
use Rattle.machine_rows.specs.declared.transition.Exits.{Exits}
use Rattle.machine_rows.specs.MachineSheet.{weight_of, machine_with}

abbrev pub same_move : Move → Move → Bool
same_move C C = true
same_move D D = true
same_move C D = false
same_move D C = false

-- whether a row leaves the state on hearing the move
abbrev pub leaves : ℕ → Move → Transition → Bool
leaves state heard row = state == row.state && same_move heard row.heard

-- the states after one more row: new ones go last
abbrev pub with_states : List ℕ → Transition → List ℕ
with_states states row = insert_key nat_eq (insert_key nat_eq states row.state) row.next

-- the different states in order of first appearance: the start, then of each row the state and the next
abbrev pub states_of : ℕ → List Transition → List ℕ
states_of start rows = fold with_states (start ∷ []) rows

-- the rows that leave a state, on hearing C and on hearing D
abbrev pub exits_of : List Transition → ℕ → Exits
exits_of rows state = record { on_c = find (leaves state C) rows; on_d = find (leaves state D) rows }

-- the exits of each state, in order
abbrev pub all_exits : ℕ → List Transition → List Exits
all_exits start rows = map (exits_of rows) (states_of start rows)

-- the rows with one more, or what is wrong with it: it isn't of the form of a row, or an earlier row leaves the same
-- state on the same move, or with it there are more than 256 states; rows count from 1
abbrev pub with_row : ℕ → ℕ → List Transition → Option Transition → Result (List Transition) Refusal
with_row entry start before None = Err (BadRows entry (length before + 1))
with_row entry start before (Some row) =
    if list_any (leaves row.state row.heard) before then Err (BadRows entry (length before + 1))
    else if nat_lt 256 (length (states_of start (before ++ row ∷ []))) then Err (TooManyRows entry)
    else Ok (before ++ row ∷ [])

-- these rows and those behind them, or what is wrong with the first wrong one
abbrev pub with_rows : ℕ → ℕ → List Transition → List (Option Transition) → Result (List Transition) Refusal
with_rows entry start before [] = Ok before
with_rows entry start before (row ∷ rest) = with_row entry start before row >>= λ now. with_rows entry start now rest

abbrev pub has_both : Exits → Bool
has_both exits = is_some exits.on_c && is_some exits.on_d

-- the weight of what is played on an exit
abbrev pub exit_weight : Option Transition → ℕ
exit_weight None = 0
exit_weight (Some row) = weight_of row.play

-- the place of a state among the states
abbrev pub number_of : List ℕ → ℕ → ℕ
number_of states state = unwrap_or (position (nat_eq state) states) 0

-- the number of the state to which an exit leads
abbrev pub exit_number : List ℕ → Option Transition → ℕ
exit_number states None = 0
exit_number states (Some row) = number_of states row.next

-- of each state in order, on hearing C and then on hearing D
abbrev pub weights_of : List Exits → List ℕ
weights_of exits = flat_map (λ one. exit_weight one.on_c ∷ exit_weight one.on_d ∷ []) exits

abbrev pub numbers_of : List ℕ → List Exits → List ℕ
numbers_of states exits = flat_map (λ one. exit_number states one.on_c ∷ exit_number states one.on_d ∷ []) exits

-- the sheet of the rows; they are wrong behind the last where some state has no row for C or for D
abbrev pub finished : ℕ → ℕ → Move → List Transition → Result SheetData Refusal
finished entry start opening rows =
    let exits = all_exits start rows in
    if list_all has_both exits then Ok (machine_with opening (weights_of exits) (numbers_of (states_of start rows) exits))
    else Err (BadRows entry (length rows + 1))

-- the sheet of a machine's rows, each as far as it is of the form of a row, or the first refusal
abbrev pub machine_sheet : ℕ → ℕ → Move → List (Option Transition) → Result SheetData Refusal
machine_sheet entry start opening rows = with_rows entry start [] rows >>= finished entry start opening
