-- The rows of a machine as far as they are read, and what is held of them.
use Rattle.std.specs.Prelude.{◌≡◌, ℕ, ◌+◌, ◌≤◌, false, nat_eq, map, sum_by, List, [], ◌∷◌, ◌++◌, length, Option, Some, None, if◌then◌else◌}
use Rattle.std.specs.List.{list_any}
use Rattle.history_model.specs.declared.moves.Move.{Move}
use Rattle.history_model.specs.declared.moves.Move.TheVariants.{C, D}
use Rattle.machine_rows.specs.declared.transition.Transition.{Transition}
use Rattle.machine_rows.specs.declared.transition.Exits.{Exits}
use Rattle.machine_rows.specs.Rows.{states_of, exits_of}

-- right rows, in order, and the state in which the machine starts
pub record RowsRead : Type 0 where
  pub start : ℕ
  pub rows : List Transition

-- a state that no row leaves yet
abbrev pub no_exits : Exits
no_exits = record { on_c = None; on_d = None }

-- the exit on hearing a move
abbrev pub exit_on : Move → Exits → Option Transition
exit_on C exits = exits.on_c
exit_on D exits = exits.on_d

-- the exits with one set
abbrev pub exit_set : Move → Exits → Transition → Exits
exit_set C exits row = record exits { on_c = Some row }
exit_set D exits row = record exits { on_d = Some row }

abbrev pub with_exit : Exits → Transition → Exits
with_exit exits row = exit_set row.heard exits row

-- the exits of the states after one more state: a new one has none
abbrev pub with_room : List ℕ → List Exits → ℕ → List Exits
with_room states exits state = if list_any (nat_eq state) states then exits else exits ++ no_exits ∷ []

abbrev pub one_if : Option Transition → ℕ
one_if None = 0
one_if (Some row) = 1

-- how many exits a state has
abbrev pub exit_count : Exits → ℕ
exit_count exits = one_if exits.on_c + one_if exits.on_d

-- no row leaves a state that isn't among these
abbrev pub LeaveThese : List ℕ → List Transition → Type 0
LeaveThese states rows = (state : ℕ) → list_any (nat_eq state) states ≡ false → exits_of rows state ≡ no_exits

-- these are the exits of the states, and there is one for each row
pub record AreExits (rows : List Transition) (states : List ℕ) (exits : List Exits) : Type 0 where
  pub exits_are : exits ≡ map (exits_of rows) states
  pub leave_these : LeaveThese states rows
  pub counted : length rows ≡ sum_by exit_count exits

-- the states and exits that are held are those of the rows
pub record IsHeld (start : ℕ) (rows : List Transition) (states : List ℕ) (exits : List Exits) : Type 0 where
  pub states_are : states ≡ states_of start rows
  pub right : AreExits rows states exits
  pub some : 1 ≤ length states
  pub few : length states ≤ 256
