-- What contracts see of a boxed player, and what its calls do to that.
use Rattle.std.specs.Prelude.{ℕ, ◌≡◌, ◌⊎◌, ◌+◌, ◌-◌, ◌^◌, ◌<◌, List, [], ◌∷◌, length, map, fold, slice_index_or, min}
use Rattle.history_model.specs.declared.moves.Move.{Move}
use Rattle.history_model.specs.Automaton.{Automaton, IsAutomaton, next_row}
use Rattle.history_model.specs.History.{History}
use Rattle.player_core.specs.declared.kind.Kind.{Kind}
use Rattle.player_core.specs.declared.kind.Kind.TheVariants.{MemoryOne, Plug}

-- what no call but a load changes
pub record Lasting : Type 0 where
  pub kind : Kind
  pub name : List ℕ
  pub automaton : Automaton

-- the row at which the player stands, and how often it was advanced and resumed
pub record PlayerState : Type 0 where
  pub lasting : Lasting
  pub mark : ℕ
  pub turns : ℕ
  pub returns : ℕ

-- the name of an object that is no plug: `-`
abbrev pub no_name : List ℕ
no_name = 45 ∷ []

-- what holds of every player: a valid automaton, a mark that is a row of it, counts of 64 bits, and a name for plugs alone
pub record IsState (state : PlayerState) : Type 0 where
  pub automaton : IsAutomaton state.lasting.automaton
  pub inside : state.mark < length state.lasting.automaton.rows
  pub turns_fit : state.turns < 2 ^ 64
  pub returns_fit : state.returns < 2 ^ 64
  pub named : (state.lasting.kind ≡ Plug) ⊎ (state.lasting.name ≡ no_name)

-- a count after k more, which stays at the last value of 64 bits
abbrev pub more : ℕ → ℕ → ℕ
more n k = min (n + k) (2 ^ 64 - 1)

-- one play is made: the mark moves on, and the play is counted
abbrev pub advanced : PlayerState → Move → Move → PlayerState
advanced state mine theirs =
    record state { mark = next_row state.lasting.automaton state.mark (record { mine = mine; theirs = theirs }); turns = more state.turns 1 }

-- the mark is set, and that is counted
abbrev pub resumed : PlayerState → ℕ → PlayerState
resumed state mark = record state { mark = mark; returns = more state.returns 1 }

-- resumed at the start
abbrev pub at_start : PlayerState → PlayerState
at_start state = resumed state state.lasting.automaton.start

-- after the plays of a history, oldest first
abbrev pub after_plays : PlayerState → History → PlayerState
after_plays state history = fold (λ before play. advanced before play.mine play.theirs) state history

-- what stands where there is no player
abbrev pub nobody : Lasting
nobody = record { kind = MemoryOne; name = no_name; automaton = record { den = 1; start = 0; rows = [] } }

abbrev pub no_state : PlayerState
no_state = record { lasting = nobody; mark = 0; turns = 0; returns = 0 }

abbrev pub lasting_at : List Lasting → ℕ → Lasting
lasting_at players k = slice_index_or players k nobody

abbrev pub state_at : List PlayerState → ℕ → PlayerState
state_at states k = slice_index_or states k no_state

-- what lasts of each player of a side
abbrev pub lasting_of : List PlayerState → List Lasting
lasting_of states = map (λ state. state.lasting) states

abbrev pub IsAtStart : PlayerState → Type 0
IsAtStart state = state.mark ≡ state.lasting.automaton.start

-- every player of a side stands at its start
abbrev pub AreAtStart : List PlayerState → Type 0
AreAtStart states = (k : ℕ) → k < length states → IsAtStart (state_at states k)

-- a bench as contracts see it: the players of each side, in order of place
pub record BenchState : Type 0 where
  pub left : List PlayerState
  pub right : List PlayerState

-- what lasts of the players of a bench; its left side stands for both, since the plugs of a bench that fits are the same
abbrev pub players_of : BenchState → List Lasting
players_of bench = lasting_of bench.left
