-- Loops that ask a player for its automaton, row by row.
use Rattle.std.proofs.Common.{◌≡◌, ℕ, ◌*◌, ◌≤◌, ◌||◌, ◌==◌, List, length, take, true}
use Rattle.std.specs.List.{list_all}
use Rattle.history_model.specs.Automaton.{Row}
use Rattle.player_core.specs.State.{PlayerState, IsState, more}

-- the rows below a mark have been read
pub record ReadSoFar (begin now : PlayerState) (read : List Row) (mark end : ℕ) : Type 0 where
  pub lasting_same : now.lasting ≡ begin.lasting
  pub count : end ≡ length begin.lasting.automaton.rows
  pub rows : read ≡ take mark begin.lasting.automaton.rows
  pub turns : now.turns ≡ more begin.turns (4 * mark)
  pub fell : begin.returns ≤ now.returns
  pub valid : IsState begin
  pub valid_now : IsState now

-- the rows of two automata agree below a mark
pub record SameSoFar (left right left_now right_now : PlayerState) (mark end : ℕ) : Type 0 where
  pub lasting_left : left_now.lasting ≡ left.lasting
  pub lasting_right : right_now.lasting ≡ right.lasting
  pub count_left : end ≡ length left.lasting.automaton.rows
  pub count_right : end ≡ length right.lasting.automaton.rows
  pub rows : take mark left.lasting.automaton.rows ≡ take mark right.lasting.automaton.rows
  pub fell_left : left.returns ≤ left_now.returns
  pub fell_right : right.returns ≤ right_now.returns
  pub valid_left : IsState left_now
  pub valid_right : IsState right_now

-- the rows below a mark have weights of 0 or the denominator
pub record SureSoFar (begin now : PlayerState) (mark end den : ℕ) : Type 0 where
  pub lasting_same : now.lasting ≡ begin.lasting
  pub turns_same : now.turns ≡ begin.turns
  pub fell : begin.returns ≤ now.returns
  pub valid_now : IsState now
  pub count : end ≡ length begin.lasting.automaton.rows
  pub den_is : den ≡ begin.lasting.automaton.den
  pub sure : list_all (λ row. row.weight == 0 || row.weight == begin.lasting.automaton.den) (take mark begin.lasting.automaton.rows) ≡ true
