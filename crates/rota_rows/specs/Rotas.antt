-- Rotas: matches that are played in slices, between which other matches are played.
use Rattle.std.specs.Prelude.{ℕ, ◌≡◌, ◌+◌, ◌<◌, ◌==◌, List, [], ◌∷◌, ◌++◌, length, map, slice_index_or, slice_set, if◌then◌else◌}
use Rattle.history_model.specs.declared.tally.Tally.{Tally}
use Rattle.history_model.specs.Automaton.{Automaton}
use Rattle.history_model.specs.History.{turned, walk}
use Rattle.history_model.specs.Path.{path}
use Rattle.history_model.specs.Tally.{counts, no_plays}
use Rattle.rota_rows.specs.declared.row.RotaRow.{RotaRow}

-- the plays of two tallies
abbrev pub plus : Tally → Tally → Tally
plus x y = record { cc = x.cc + y.cc; cd = x.cd + y.cd; dc = x.dc + y.dc; dd = x.dd + y.dd }

-- a match that went on from its marks for some turns between two automata
abbrev pub moved : Automaton → Automaton → ℕ → RotaRow → RotaRow
moved a b turns row =
    let plays = path a row.left_mark b row.right_mark turns in
    record row { left_mark = walk a row.left_mark plays; right_mark = walk b row.right_mark (turned plays); tally = plus row.tally (counts plays) }

-- the turns that slices give the match at a place
abbrev pub turns_of : ℕ → List (ℕ × ℕ) → ℕ
turns_of m [] = 0
turns_of m (slice ∷ slices) = (if slice.0 == m then slice.1 else 0) + turns_of m slices

-- the matches from a place on, after slices, where the entry at each place plays an automaton
abbrev pub rows_from : (ℕ → Automaton) → List (ℕ × ℕ) → ℕ → List RotaRow → List RotaRow
rows_from plays slices m [] = []
rows_from plays slices m (row ∷ rows) = moved (plays row.left) (plays row.right) (turns_of m slices) row ∷ rows_from plays slices (m + 1) rows

-- where slices leave the matches: each goes on by its own turns alone, whatever came between
abbrev pub rota_after : (ℕ → Automaton) → List (ℕ × ℕ) → List RotaRow → List RotaRow
rota_after plays slices rows = rows_from plays slices 0 rows

-- a match of two entries before its first turn
abbrev pub begun : (ℕ → Automaton) → ℕ × ℕ → RotaRow
begun plays pair = record { left = pair.0; right = pair.1; left_mark = (plays pair.0).start; right_mark = (plays pair.1).start; tally = no_plays }

-- all matches before their first turn
abbrev pub rota_begun : (ℕ → Automaton) → List (ℕ × ℕ) → List RotaRow
rota_begun plays pairs = map (begun plays) pairs

-- what stands where there is no match
abbrev pub no_match : RotaRow
no_match = record { left = 0; right = 0; left_mark = 0; right_mark = 0; tally = no_plays }

abbrev pub match_at : List RotaRow → ℕ → RotaRow
match_at rows m = slice_index_or rows m no_match

-- the laws: slices that are cut anywhere leave each match where they leave it uncut; no slices leave all as it is; one slice moves its own
-- match and no other; and the match at a place stands where it would stand alone
pub record RotasGoOn : Type 0 where
  pub cut : (plays : ℕ → Automaton) (first last : List (ℕ × ℕ)) (rows : List RotaRow)
      → rota_after plays (first ++ last) rows ≡ rota_after plays last (rota_after plays first rows)
  pub none : (plays : ℕ → Automaton) (rows : List RotaRow) → rota_after plays [] rows ≡ rows
  pub one : (plays : ℕ → Automaton) (m k : ℕ) (rows : List RotaRow) → m < length rows
      → rota_after plays ((m, k) ∷ []) rows ≡ slice_set rows m (moved (plays (match_at rows m).left) (plays (match_at rows m).right) k (match_at rows m))
  pub alone : (plays : ℕ → Automaton) (slices : List (ℕ × ℕ)) (rows : List RotaRow) (m : ℕ) → m < length rows
      → match_at (rota_after plays slices rows) m ≡ moved (plays (match_at rows m).left) (plays (match_at rows m).right) (turns_of m slices) (match_at rows m)
  pub same_length : (plays : ℕ → Automaton) (slices : List (ℕ × ℕ)) (rows : List RotaRow) → length (rota_after plays slices rows) ≡ length rows
