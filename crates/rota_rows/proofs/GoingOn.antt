-- Matches go on by their own turns, however these are cut into slices.
use Rattle.std.proofs.Common.{◌≡◌, ◌≢◌, ℕ, zero, suc, ◌+◌, ◌<◌, ◌==◌, true, false, List, [], ◌∷◌, ◌++◌, length, slice_set, slice_index_or, if◌then◌else◌, refl, sym, ◌∙◌, ap, zero-add, arith}
use Rattle.std.proofs.lemmas.Bool.{eq-eqb, ne_eqb}
use Rattle.history_model.specs.declared.moves.Move.{Move}
use Rattle.history_model.specs.declared.moves.Move.TheVariants.{C, D}
use Rattle.history_model.specs.declared.tally.Tally.{Tally}
use Rattle.history_model.specs.Automaton.{Automaton, next_row}
use Rattle.history_model.specs.History.{turned_play, turned, walk}
use Rattle.history_model.specs.Path.{sure_play, path}
use Rattle.history_model.specs.Tally.{counts, no_plays, with_play}
use Rattle.rota_rows.specs.declared.row.RotaRow.{RotaRow}
use Rattle.rota_rows.specs.Rotas.{plus, moved, turns_of, rows_from, no_match, match_at, RotasGoOn}

-- ---- tallies

tally_same : (x y : Tally) → x.cc ≡ y.cc → x.cd ≡ y.cd → x.dc ≡ y.dc → x.dd ≡ y.dd → x ≡ y
tally_same x y cc cd dc dd =
    let T : ℕ → ℕ → ℕ → ℕ → Tally = λ (p q r s : ℕ). record { cc = p; cd = q; dc = r; dd = s } in
    ap (λ n. T n x.cd x.dc x.dd) cc ∙ ap (λ n. T y.cc n x.dc x.dd) cd ∙ ap (λ n. T y.cc y.cd n x.dd) dc ∙ ap (λ n. T y.cc y.cd y.dc n) dd

plus_none : (x : Tally) → plus x no_plays ≡ x
plus_none x = tally_same _ _ (omega arith) (omega arith) (omega arith) (omega arith)

plus_with : (mine theirs : Move) (x y : Tally) → plus x (with_play mine theirs y) ≡ plus (with_play mine theirs x) y
plus_with C C x y = tally_same _ _ (omega arith) (omega arith) (omega arith) (omega arith)
plus_with C D x y = tally_same _ _ (omega arith) (omega arith) (omega arith) (omega arith)
plus_with D C x y = tally_same _ _ (omega arith) (omega arith) (omega arith) (omega arith)
plus_with D D x y = tally_same _ _ (omega arith) (omega arith) (omega arith) (omega arith)

-- ---- one match

moved-none : (a b : Automaton) (row : RotaRow) → moved a b 0 row ≡ row
moved-none a b row = ap (λ (t : Tally). record row { tally = t }) (plus_none row.tally)

-- a match after one turn
abbrev after_turn : Automaton → Automaton → RotaRow → RotaRow
after_turn a b row =
    let play = sure_play a row.left_mark b row.right_mark in
    record row {
      left_mark = next_row a row.left_mark play;
      right_mark = next_row b row.right_mark (turned_play play);
      tally = with_play play.mine play.theirs row.tally;
    }

moved-suc : (a b : Automaton) (turns : ℕ) (row : RotaRow) → moved a b (suc turns) row ≡ moved a b turns (after_turn a b row)
moved-suc a b turns row =
    let play = sure_play a row.left_mark b row.right_mark in
    let next = after_turn a b row in
    let rest = path a next.left_mark b next.right_mark turns in
    ap (λ (t : Tally). record row { left_mark = walk a next.left_mark rest; right_mark = walk b next.right_mark (turned rest); tally = t })
    (plus_with play.mine play.theirs row.tally (counts rest))

moved-add : (a b : Automaton) (m n : ℕ) (row : RotaRow) → moved a b (m + n) row ≡ moved a b n (moved a b m row)
moved-add a b zero n row =
    ap (λ k. moved a b k row) (zero-add n) ∙ ap (λ (r : RotaRow). moved a b n r) (sym (moved-none a b row))
moved-add a b (suc m) n row =
    let e : suc m + n ≡ suc (m + n) = omega arith in
    ap (λ k. moved a b k row) e
    ∙ moved-suc a b (m + n) row
    ∙ moved-add a b m n (after_turn a b row)
    ∙ ap (λ (r : RotaRow). moved a b n r) (sym (moved-suc a b m row))

-- ---- all matches

turns-append : (m : ℕ) (first last : List (ℕ × ℕ)) → turns_of m (first ++ last) ≡ turns_of m first + turns_of m last
turns-append m [] last = sym (zero-add (turns_of m last))
turns-append m (slice ∷ first) last =
    let own = if slice.0 == m then slice.1 else 0 in
    let e : turns_of m (first ++ last) ≡ turns_of m first + turns_of m last = turns-append m first last in
    omega (arith, e)

rows_from-append : (plays : ℕ → Automaton) (first last : List (ℕ × ℕ)) (m : ℕ) (rows : List RotaRow)
    → rows_from plays (first ++ last) m rows ≡ rows_from plays last m (rows_from plays first m rows)
rows_from-append plays first last m [] = refl
rows_from-append plays first last m (row ∷ rows) =
    let a = plays row.left in
    let b = plays row.right in
    ap (λ k. moved a b k row ∷ rows_from plays (first ++ last) (m + 1) rows) (turns-append m first last)
    ∙ ap (λ (r : RotaRow). r ∷ rows_from plays (first ++ last) (m + 1) rows) (moved-add a b (turns_of m first) (turns_of m last) row)
    ∙ ap (λ (rs : List RotaRow). moved a b (turns_of m last) (moved a b (turns_of m first) row) ∷ rs) (rows_from-append plays first last (m + 1) rows)

rows_from-none : (plays : ℕ → Automaton) (m : ℕ) (rows : List RotaRow) → rows_from plays [] m rows ≡ rows
rows_from-none plays m [] = refl
rows_from-none plays m (row ∷ rows) =
    ap (λ (r : RotaRow). r ∷ rows_from plays [] (m + 1) rows) (moved-none (plays row.left) (plays row.right) row)
    ∙ ap (λ (rs : List RotaRow). row ∷ rs) (rows_from-none plays (m + 1) rows)

rows_from-length : (plays : ℕ → Automaton) (slices : List (ℕ × ℕ)) (m : ℕ) (rows : List RotaRow) → length (rows_from plays slices m rows) ≡ length rows
rows_from-length plays slices m [] = refl
rows_from-length plays slices m (row ∷ rows) = ap suc (rows_from-length plays slices (m + 1) rows)

-- the match at a place
rows_from-at : (plays : ℕ → Automaton) (slices : List (ℕ × ℕ)) (i j : ℕ) (rows : List RotaRow) → j < length rows
    → slice_index_or (rows_from plays slices i rows) j no_match
    ≡ moved (plays (match_at rows j).left) (plays (match_at rows j).right) (turns_of (i + j) slices) (match_at rows j)
rows_from-at plays slices i j [] inside = absurd (omega (arith, inside))
rows_from-at plays slices i zero (row ∷ rows) inside =
    let e : i ≡ i + zero = omega arith in
    ap (λ k. moved (plays row.left) (plays row.right) (turns_of k slices) row) e
rows_from-at plays slices i (suc j) (row ∷ rows) inside =
    let e : (i + 1) + j ≡ i + suc j = omega arith in
    let there = match_at rows j in
    rows_from-at plays slices (i + 1) j rows (omega (arith, inside))
    ∙ ap (λ k. moved (plays there.left) (plays there.right) (turns_of k slices) there) e

-- ---- one slice

one_own : (m k : ℕ) → turns_of m ((m, k) ∷ []) ≡ k
one_own m k =
    let e : (m == m) ≡ true = eq-eqb m m refl in
    let none : k + 0 ≡ k = omega arith in
    ap (λ own. (if own then k else 0) + 0) e ∙ none

one_other : (m k j : ℕ) → m ≢ j → turns_of j ((m, k) ∷ []) ≡ 0
one_other m k j differ =
    let e : (m == j) ≡ false = ne_eqb m j differ in
    ap (λ own. (if own then k else 0) + 0) e

-- it leaves the matches behind its own
one-after : (plays : ℕ → Automaton) (m k i : ℕ) (rows : List RotaRow) → m < i → rows_from plays ((m, k) ∷ []) i rows ≡ rows
one-after plays m k i [] before = refl
one-after plays m k i (row ∷ rows) before =
    let a = plays row.left in
    let b = plays row.right in
    let tail = rows_from plays ((m, k) ∷ []) (i + 1) rows in
    let differ : m ≢ i = omega arith in
    ap (λ n. moved a b n row ∷ tail) (one_other m k i differ)
    ∙ ap (λ (r : RotaRow). r ∷ tail) (moved-none a b row)
    ∙ ap (λ (rs : List RotaRow). row ∷ rs) (one-after plays m k (i + 1) rows (omega arith))

one-moves : (plays : ℕ → Automaton) (m k i j : ℕ) (rows : List RotaRow) → m ≡ i + j → j < length rows
    → rows_from plays ((m, k) ∷ []) i rows
    ≡ slice_set rows j (moved (plays (match_at rows j).left) (plays (match_at rows j).right) k (match_at rows j))
one-moves plays m k i j [] e inside = absurd (omega (arith, inside))
one-moves plays m k i zero (row ∷ rows) e inside =
    let a = plays row.left in
    let b = plays row.right in
    let tail = rows_from plays ((m, k) ∷ []) (i + 1) rows in
    let own : turns_of i ((m, k) ∷ []) ≡ k = let same : m ≡ i = omega arith in ap (λ n. turns_of i ((n, k) ∷ [])) same ∙ one_own i k in
    ap (λ n. moved a b n row ∷ tail) own
    ∙ ap (λ (rs : List RotaRow). moved a b k row ∷ rs) (one-after plays m k (i + 1) rows (omega arith))
one-moves plays m k i (suc j) (row ∷ rows) e inside =
    let a = plays row.left in
    let b = plays row.right in
    let tail = rows_from plays ((m, k) ∷ []) (i + 1) rows in
    let differ : m ≢ i = omega arith in
    ap (λ n. moved a b n row ∷ tail) (one_other m k i differ)
    ∙ ap (λ (r : RotaRow). r ∷ tail) (moved-none a b row)
    ∙ ap (λ (rs : List RotaRow). row ∷ rs) (one-moves plays m k (i + 1) j rows (omega arith) (omega (arith, inside)))

-- ---- the law

pub rotas_go_on_lem : RotasGoOn
rotas_go_on_lem = record {
  cut = λ plays first last rows. rows_from-append plays first last 0 rows;
  none = λ plays rows. rows_from-none plays 0 rows;
  one = λ plays m k rows inside. one-moves plays m k 0 m rows (sym (zero-add m)) inside;
  alone = λ plays slices rows m inside.
      let there = match_at rows m in
      rows_from-at plays slices 0 m rows inside
      ∙ ap (λ n. moved (plays there.left) (plays there.right) (turns_of n slices) there) (zero-add m);
  same_length = λ plays slices rows. rows_from-length plays slices 0 rows;
}
