-- Plays in a row from where two players stand, and cycles of them.
use Rattle.std.specs.Prelude.{ℕ, ◌≡◌, ◌≢◌, ◌+◌, ◌*◌, ◌≤◌, ◌<◌, length}
use Rattle.history_model.specs.declared.tally.Tally.{Tally}
use Rattle.history_model.specs.History.{History, turned, walk}
use Rattle.history_model.specs.Path.{path}
use Rattle.history_model.specs.Tally.{counts}
use Rattle.player_core.specs.State.{PlayerState, more}
use Rattle.match_play.specs.Fresh.{RowPair}

-- the next plays of two players
abbrev pub next_plays : PlayerState → PlayerState → ℕ → History
next_plays left right turns = path left.lasting.automaton left.mark right.lasting.automaton right.mark turns

-- the rows where the next plays lead
abbrev pub next_rows : PlayerState → PlayerState → ℕ → RowPair
next_rows left right turns =
    record {
      left = walk left.lasting.automaton left.mark (next_plays left right turns);
      right = walk right.lasting.automaton right.mark (turned (next_plays left right turns));
    }

-- a player that was advanced so many times, and stands where a history leads from where it stood
abbrev pub led_on : PlayerState → History → ℕ → PlayerState
led_on state history steps =
    record state { mark = walk state.lasting.automaton state.mark history; turns = more state.turns steps }

-- the plays of two tallies, and those of one tally some times over
abbrev pub both : Tally → Tally → Tally
both x y = record { cc = x.cc + y.cc; cd = x.cd + y.cd; dc = x.dc + y.dc; dd = x.dd + y.dd }

abbrev pub times : ℕ → Tally → Tally
times n x = record { cc = n * x.cc; cd = n * x.cd; dc = n * x.dc; dd = n * x.dd }

-- after so many plays, which are counted as once, both players stand again where they stand now
pub record IsCycle (left right : PlayerState) (long : ℕ) (once : Tally) : Type 0 where
  pub some : 0 < long
  pub back_left : walk left.lasting.automaton left.mark (next_plays left right long) ≡ left.mark
  pub back_right : walk right.lasting.automaton right.mark (turned (next_plays left right long)) ≡ right.mark
  pub counted : once ≡ counts (next_plays left right long)

-- two players stand where their next plays lead, after at most two advances each for a pair of rows, and as many as
-- there are plays before a pair of rows comes again
pub record HasGoneOn (left right left_now right_now : PlayerState) (turns : ℕ) : Type 0 where
  pub steps : ℕ
  pub within : steps ≤ 2 * (length left.lasting.automaton.rows * length right.lasting.automaton.rows)
  pub fresh : (j : ℕ) → j ≤ turns → ((i k : ℕ) → i < k → k < j → next_rows left right i ≢ next_rows left right k) → j ≤ steps
  pub left_is : left_now ≡ led_on left (next_plays left right turns) steps
  pub right_is : right_now ≡ led_on right (turned (next_plays left right turns)) steps
