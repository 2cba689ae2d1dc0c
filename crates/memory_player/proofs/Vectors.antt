-- The automaton of a vector is valid, and follows the vector's rule.
use Rattle.std.proofs.Common.{◌≡◌, ℕ, zero, suc, ◌+◌, ◌*◌, ◌<◌, ◌≤◌, ◌∷◌, [], length, slice_index, refl, arith}
use Rattle.std.proofs.lemmas.List.{get_or-map, length-map}
use Rattle.history_model.specs.declared.moves.Move.{Move}
use Rattle.history_model.specs.declared.moves.Move.TheVariants.{C, D}
use Rattle.history_model.specs.declared.moves.Play.{Play}
use Rattle.history_model.specs.Automaton.{IsAutomaton, row_at, weight_at, next_row, next_of, no_row}
use Rattle.history_model.specs.History.{History, walk}
use Rattle.player_core.specs.declared.kind.Kind.TheVariants.{MemoryOne}
use Rattle.player_core.specs.Sheet.{SheetData, IsVector, digit}
use Rattle.player_core.specs.AutomatonOf.{vector_row, vector_automaton, automaton_of}
use Rattle.player_core.specs.Rule.{FollowsRule, vector_rule, own_rule, rule}

pub five_rows : (sheet : SheetData) → IsVector sheet → length (vector_automaton sheet).rows ≡ 5
five_rows sheet vector = omega (arith, vector.four_weights, length-map sheet.table vector_row)

-- the place of a play among the four
abbrev pub play_digits : Move → Move → ℕ
play_digits mine theirs = 2 * digit mine + digit theirs

few_digits : (mine theirs : Move) → play_digits mine theirs < 4
few_digits C C = omega arith
few_digits C D = omega arith
few_digits D C = omega arith
few_digits D D = omega arith

-- each play leads from any row of a vector to the row of that play
next_of_vector : (weight : ℕ) (mine theirs : Move) → next_of (vector_row weight) mine theirs ≡ suc (play_digits mine theirs)
next_of_vector weight C C = refl
next_of_vector weight C D = refl
next_of_vector weight D C = refl
next_of_vector weight D D = refl

-- a row of a vector behind the start
play_row : (sheet : SheetData) (k : ℕ) → IsVector sheet → k < 4
    → row_at (vector_automaton sheet) (suc k) ≡ vector_row (slice_index sheet.table k)
play_row sheet k vector inside =
    get_or-map vector_row sheet.table k 0 no_row (omega (arith, vector.four_weights))

next_of_row : (sheet : SheetData) (row : ℕ) (mine theirs : Move) → IsVector sheet → row < 5
    → next_of (row_at (vector_automaton sheet) row) mine theirs ≡ suc (play_digits mine theirs)
next_of_row sheet zero mine theirs vector inside = next_of_vector (slice_index sheet.opening 0) mine theirs
next_of_row sheet (suc k) mine theirs vector inside =
    rw (play_row sheet k vector (omega arith)) (next_of_vector (slice_index sheet.table k) mine theirs)

weighed : (sheet : SheetData) (row : ℕ) → IsVector sheet → row < 5 → weight_at (vector_automaton sheet) row ≤ sheet.den
weighed sheet zero vector inside = vector.weighted.opening_within 0 (omega (arith, vector.one_opening))
weighed sheet (suc k) vector inside =
    rw (play_row sheet k vector (omega arith), weight_at) (vector.weighted.table_within k (omega (arith, vector.four_weights)))

pub vector_valid : (sheet : SheetData) → IsVector sheet → IsAutomaton (vector_automaton sheet)
vector_valid sheet vector =
    let five = five_rows sheet vector in
    record {
      some = vector.weighted.some;
      few = vector.weighted.few;
      few_rows = omega arith;
      started = omega arith;
      weighed = λ row inside. weighed sheet row vector (omega arith);
      closed = λ row mine theirs inside.
          omega (arith, next_of_row sheet row mine theirs vector (omega arith), few_digits mine theirs);
    }

-- where a play leads, and what is played there
after_play : (sheet : SheetData) (row : ℕ) (play : Play) → IsVector sheet → row < 5
    → next_row (vector_automaton sheet) row play ≡ suc (play_digits play.mine play.theirs)
after_play sheet row play vector inside = next_of_row sheet row play.mine play.theirs vector inside

-- from any row, the last play alone says what is played
follows_from : (sheet : SheetData) (row : ℕ) (play : Play) (rest : History) → IsVector sheet → row < 5
    → weight_at (vector_automaton sheet) (walk (vector_automaton sheet) row (play ∷ rest)) ≡ vector_rule sheet (play ∷ rest)
follows_from sheet row play [] vector inside =
    rw (after_play sheet row play vector inside, weight_at, play_row sheet (play_digits play.mine play.theirs) vector (few_digits play.mine play.theirs)) refl
follows_from sheet row play (later ∷ rest) vector inside =
    follows_from sheet (next_row (vector_automaton sheet) row play) later rest vector
    (omega (arith, after_play sheet row play vector inside, few_digits play.mine play.theirs))

vector_follows : (sheet : SheetData) (history : History) → IsVector sheet
    → own_rule (vector_automaton sheet) history ≡ vector_rule sheet history
vector_follows sheet [] vector = refl
vector_follows sheet (play ∷ rest) vector = follows_from sheet 0 play rest vector (omega arith)

pub vectors_follow : FollowsRule MemoryOne
vectors_follow sheet own history valid is =
    rw (is, automaton_of, rule) (vector_follows sheet history (valid.memory_one is))
