-- The automaton of a machine is valid, and follows the machine's rule.
use Rattle.std.proofs.Common.{◌≡◌, ℕ, ◌+◌, ◌*◌, ◌/◌, ◌<◌, ◌∷◌, [], length, fold, slice_index, refl, ap, arith}
use Rattle.std.proofs.lemmas.List.FromFn.{length-map-range_with_len, get_or-map-range_with_len}
use Rattle.history_model.specs.declared.moves.Move.{Move}
use Rattle.history_model.specs.declared.moves.Move.TheVariants.{C, D}
use Rattle.history_model.specs.declared.moves.Play.{Play}
use Rattle.history_model.specs.Automaton.{IsAutomaton, row_at, weight_at, next_row, next_of, no_row}
use Rattle.history_model.specs.History.{History, walk}
use Rattle.player_core.specs.declared.kind.Kind.TheVariants.{Machine}
use Rattle.player_core.specs.Sheet.{SheetData, IsMachine, states, digit}
use Rattle.player_core.specs.AutomatonOf.{machine_row, machine_automaton, entered, automaton_of}
use Rattle.player_core.specs.Rule.{FollowsRule, newest, before_newest, heard_in, next_state, machine_rule, own_rule, rule}

pub all_rows : (sheet : SheetData) → length (machine_automaton sheet).rows ≡ 2 * states sheet
all_rows sheet = length-map-range_with_len (machine_row sheet) 0 (2 * states sheet)

pub row_is : (sheet : SheetData) (row : ℕ) → row < 2 * states sheet → row_at (machine_automaton sheet) row ≡ machine_row sheet row
row_is sheet row inside = get_or-map-range_with_len (machine_row sheet) 0 (2 * states sheet) row row no_row inside (omega arith)

few_digits : (heard : Move) → digit heard < 2
few_digits C = omega arith
few_digits D = omega arith

-- a row leads where the entry of its state and of the heard move leads
next_of_machine : (sheet : SheetData) (row : ℕ) (mine theirs : Move)
    → next_of (machine_row sheet row) mine theirs ≡ entered sheet (2 * (row / 2) + digit theirs)
next_of_machine sheet row C C = ap (entered sheet) (omega arith)
next_of_machine sheet row C D = refl
next_of_machine sheet row D C = ap (entered sheet) (omega arith)
next_of_machine sheet row D D = refl

after_play : (sheet : SheetData) (row : ℕ) (play : Play) → row < 2 * states sheet
    → next_row (machine_automaton sheet) row play ≡ entered sheet (2 * (row / 2) + digit play.theirs)
after_play sheet row play inside =
    rw (row_is sheet row inside) (next_of_machine sheet row play.mine play.theirs)

-- an entry leads to a row, whose state is the entry's, and which plays as the entry does
entered_inside : (sheet : SheetData) (place : ℕ) → IsMachine sheet → place < 2 * states sheet → entered sheet place < 2 * states sheet
entered_inside sheet place machine inside =
    omega (arith, machine.closed place (omega (arith, machine.next_whole)))

entered_state : (sheet : SheetData) (place : ℕ) → entered sheet place / 2 ≡ slice_index sheet.next place
entered_state sheet place = omega arith

entered_weight : (sheet : SheetData) (place : ℕ) → IsMachine sheet → place < 2 * states sheet
    → weight_at (machine_automaton sheet) (entered sheet place) ≡ slice_index sheet.table place
entered_weight sheet place machine inside =
    rw (row_is sheet (entered sheet place) (entered_inside sheet place machine inside), weight_at)
    (omega (arith, machine.unit, machine.weighted.table_within place (omega (arith, machine.table_whole))))

-- the entry of a row and of a heard move
place_inside : (count row : ℕ) (heard : Move) → row < 2 * count → 2 * (row / 2) + digit heard < 2 * count
place_inside count row heard inside = omega (arith, few_digits heard)

closed : (sheet : SheetData) (row : ℕ) (mine theirs : Move) → IsMachine sheet → row < 2 * states sheet
    → next_of (row_at (machine_automaton sheet) row) mine theirs < 2 * states sheet
closed sheet row mine theirs machine inside =
    rw (row_is sheet row inside, next_of_machine sheet row mine theirs)
    (entered_inside sheet _ machine (place_inside (states sheet) row theirs inside))

pub machine_valid : (sheet : SheetData) → IsMachine sheet → IsAutomaton (machine_automaton sheet)
machine_valid sheet machine =
    let whole = all_rows sheet in
    record {
      some = omega arith;
      few = omega arith;
      few_rows = omega (arith, machine.few_states);
      started = omega (arith, machine.some_states);
      weighed = λ row inside. rw (row_is sheet row (omega arith), weight_at) (omega arith);
      closed = λ row mine theirs inside. rw whole (closed sheet row mine theirs machine (omega arith));
    }

-- from a row of a state, the heard moves say what is played
follows_from : (sheet : SheetData) (row state : ℕ) (play : Play) (rest : History) → IsMachine sheet → row < 2 * states sheet → row / 2 ≡ state
    → weight_at (machine_automaton sheet) (walk (machine_automaton sheet) row (play ∷ rest))
    ≡ slice_index sheet.table (2 * fold (next_state sheet) state (heard_in (before_newest play rest)) + digit (newest play rest).theirs)
follows_from sheet row state play [] machine inside at =
    rw (after_play sheet row play inside, ← at)
    (entered_weight sheet _ machine (place_inside (states sheet) row play.theirs inside))
follows_from sheet row state play (later ∷ rest) machine inside at =
    let place : ℕ = 2 * (row / 2) + digit play.theirs in
    let low = place_inside (states sheet) row play.theirs inside in
    let there = after_play sheet row play inside in
    follows_from sheet (next_row (machine_automaton sheet) row play) (next_state sheet state play.theirs) later rest machine
    (rw there (entered_inside sheet place machine low))
    (rw (there, ← at) (entered_state sheet place))

start_weight : (sheet : SheetData) → IsMachine sheet
    → weight_at (machine_automaton sheet) (machine_automaton sheet).start ≡ slice_index sheet.opening 0
start_weight sheet machine =
    rw (row_is sheet (machine_automaton sheet).start (omega (arith, machine.some_states)), weight_at)
    (omega (arith, machine.unit, machine.weighted.opening_within 0 (omega (arith, machine.one_opening))))

machine_follows : (sheet : SheetData) (history : History) → IsMachine sheet
    → own_rule (machine_automaton sheet) history ≡ machine_rule sheet history
machine_follows sheet [] machine = start_weight sheet machine
machine_follows sheet (play ∷ rest) machine =
    follows_from sheet (machine_automaton sheet).start 0 play rest machine (omega (arith, machine.some_states)) (omega arith)

pub machines_follow : FollowsRule Machine
machines_follow sheet own history valid is =
    rw (is, automaton_of, rule) (machine_follows sheet history (valid.machine is))
