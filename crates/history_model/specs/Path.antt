-- The path of a sure match: the one history in which every move follows both automata.
use Rattle.std.specs.Prelude.{ℕ, zero, suc, ◌≡◌, ◌↔◌, ◌==◌, if◌then◌else◌, [], ◌∷◌, ◌++◌, length}
use Rattle.history_model.specs.declared.moves.Move.{Move}
use Rattle.history_model.specs.declared.moves.Move.TheVariants.{C, D}
use Rattle.history_model.specs.declared.moves.Play.{Play}
use Rattle.history_model.specs.Automaton.{Automaton, weight_at, next_row}
use Rattle.history_model.specs.History.{History, turned_play, turned, walk}

-- the move of a sure automaton at a row: C exactly where the weight is the denominator
abbrev pub sure_move : Automaton → ℕ → Move
sure_move a row = if weight_at a row == a.den then C else D

-- the play of two sure automata at a pair of rows
abbrev pub sure_play : Automaton → ℕ → Automaton → ℕ → Play
sure_play a u b v = record { mine = sure_move a u; theirs = sure_move b v }

-- n plays from a pair of rows
abbrev pub path : Automaton → ℕ → Automaton → ℕ → ℕ → History
path a u b v zero = []
path a u b v (suc n) =
    let play = sure_play a u b v in
    play ∷ path a (next_row a u play) b (next_row b v (turned_play play)) n

-- n plays from the starts
abbrev pub match_path : Automaton → Automaton → ℕ → History
match_path a b n = path a a.start b b.start n

-- a history of n plays in which each move is the one of its player's row, where the plays before it lead
pub record Follows (a : Automaton) (u : ℕ) (b : Automaton) (v n : ℕ) (history : History) : Type 0 where
  pub length_is : length history ≡ n
  pub plays : (before : History) (play : Play) (after : History) → history ≡ before ++ play ∷ after
      → play ≡ sure_play a (walk a u before) b (walk b v (turned before))

-- the law: there is exactly one such history, and it is the path
abbrev pub PathIsOne : Type 0
PathIsOne =
    (a : Automaton) (u : ℕ) (b : Automaton) (v n : ℕ) (history : History) → Follows a u b v n history ↔ (history ≡ path a u b v n)
