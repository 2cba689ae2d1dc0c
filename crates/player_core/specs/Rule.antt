-- What a sheet says of each history, by the history alone (memory-one, machine and lookup after the Axelrod library).
use Rattle.std.specs.Prelude.{ℕ, ◌≡◌, ◌+◌, ◌-◌, ◌*◌, nat_lt, List, [], ◌∷◌, ◌++◌, length, map, fold, take, drop, slice_index, if◌then◌else◌}
use Rattle.history_model.specs.declared.moves.Move.{Move}
use Rattle.history_model.specs.Automaton.{Automaton, weight_at}
use Rattle.history_model.specs.History.{History, walk}
use Rattle.player_core.specs.declared.kind.Kind.{Kind}
use Rattle.player_core.specs.declared.kind.Kind.TheVariants.{MemoryOne, Machine, Lookup, Plug}
use Rattle.player_core.specs.Sheet.{SheetData, IsSheet, depth, digit}
use Rattle.player_core.specs.AutomatonOf.{automaton_of}

-- the last of a list that begins with x
abbrev pub newest : {X : Type 0} → X → List X → X
newest x [] = x
newest x (y ∷ ys) = newest y ys

-- a list that begins with x, without its last
abbrev pub before_newest : {X : Type 0} → X → List X → List X
before_newest x [] = []
before_newest x (y ∷ ys) = x ∷ before_newest y ys

-- a vector plays its opening, and then by the last play
abbrev pub vector_rule : SheetData → History → ℕ
vector_rule sheet [] = slice_index sheet.opening 0
vector_rule sheet (play ∷ rest) =
    let last = newest play rest in slice_index sheet.table (2 * digit last.mine + digit last.theirs)

-- the state that a machine goes to on hearing a move
abbrev pub next_state : SheetData → ℕ → Move → ℕ
next_state sheet state heard = slice_index sheet.next (2 * state + digit heard)

-- the state that the heard moves lead to from state 0
abbrev pub state_after : SheetData → List Move → ℕ
state_after sheet heard = fold (next_state sheet) 0 heard

-- what the other played
abbrev pub heard_in : History → List Move
heard_in history = map (λ play. play.theirs) history

-- a machine plays its opening, and then by the last heard move in the state that the heard moves before it led to
abbrev pub machine_rule : SheetData → History → ℕ
machine_rule sheet [] = slice_index sheet.opening 0
machine_rule sheet (play ∷ rest) =
    slice_index sheet.table (2 * state_after sheet (heard_in (before_newest play rest)) + digit (newest play rest).theirs)

-- what the player itself played
abbrev pub own_in : History → List Move
own_in history = map (λ play. play.mine) history

-- the last n of a list
abbrev pub last : {X : Type 0} → ℕ → List X → List X
last n list = drop (length list - n) list

-- moves as a binary number, the highest digit first
abbrev pub moves_number : List Move → ℕ
moves_number moves = fold (λ n move. 2 * n + digit move) 0 moves

-- what a lookup table looks at: its own last plays, the other's last and the other's first, each oldest first
abbrev pub looked_at : SheetData → History → List Move
looked_at sheet history =
    last sheet.own (own_in history) ++ (last sheet.other (heard_in history) ++ take sheet.first (heard_in history))

-- a lookup table plays one opening after the other up to its depth, and then by what it looks at
abbrev pub table_rule : SheetData → History → ℕ
table_rule sheet history =
    if nat_lt (length history) (depth sheet) then slice_index sheet.opening (length history)
    else slice_index sheet.table (moves_number (looked_at sheet history))

-- an automaton that is given by itself: the weight where the history leads
abbrev pub own_rule : Automaton → History → ℕ
own_rule own history = weight_at own (walk own own.start history)

abbrev pub rule_by : Kind → SheetData → Automaton → History → ℕ
rule_by MemoryOne sheet own history = vector_rule sheet history
rule_by Machine sheet own history = machine_rule sheet history
rule_by Lookup sheet own history = table_rule sheet history
rule_by Plug sheet own history = own_rule own history

-- the weight of C after a history
abbrev pub rule : SheetData → Automaton → History → ℕ
rule sheet own history = rule_by sheet.kind sheet own history

-- the law of a kind: after every history the automaton of a sheet has the weight that the sheet's rule gives
abbrev pub FollowsRule : Kind → Type 0
FollowsRule kind =
    (sheet : SheetData) (own : Automaton) (history : History) → IsSheet sheet → sheet.kind ≡ kind →
    own_rule (automaton_of sheet own) history ≡ rule sheet own history
