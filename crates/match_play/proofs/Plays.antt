-- Plays of two automata in a row: their parts, and cycles of them.
use Rattle.std.proofs.Common.{◌≡◌, ℕ, zero, suc, ◌+◌, ◌*◌, ◌<◌, length, refl, sym, ◌∙◌, ap, zero-add, arith}
use Rattle.history_model.specs.declared.moves.Move.{Move}
use Rattle.history_model.specs.declared.moves.Move.TheVariants.{C, D}
use Rattle.history_model.specs.declared.tally.Tally.{Tally}
use Rattle.history_model.specs.Automaton.{Automaton, IsAutomaton}
use Rattle.history_model.specs.History.{History, turned, walk}
use Rattle.history_model.specs.Path.{sure_play, path}
use Rattle.history_model.specs.Tally.{no_plays, with_play, counts, total}
use Rattle.match_play.specs.Fresh.{RowPair}
use Rattle.match_play.specs.Cycle.{both, times}

-- n plays from a pair of rows, and the pair of rows where they lead
abbrev pub plays : Automaton → Automaton → RowPair → ℕ → History
plays a b s n = path a s.left b s.right n

abbrev pub rows : Automaton → Automaton → RowPair → ℕ → RowPair
rows a b s n = record { left = walk a s.left (plays a b s n); right = walk b s.right (turned (plays a b s n)) }

pub tally_same : (x y : Tally) → x.cc ≡ y.cc → x.cd ≡ y.cd → x.dc ≡ y.dc → x.dd ≡ y.dd → x ≡ y
tally_same x y cc cd dc dd =
    let T : ℕ → ℕ → ℕ → ℕ → Tally = λ (p q r s : ℕ). record { cc = p; cd = q; dc = r; dd = s } in
    ap (λ n. T n x.cd x.dc x.dd) cc ∙ ap (λ n. T y.cc n x.dc x.dd) cd ∙ ap (λ n. T y.cc y.cd n x.dd) dc ∙ ap (λ n. T y.cc y.cd y.dc n) dd

pub rows_same : (x y : RowPair) → x.left ≡ y.left → x.right ≡ y.right → x ≡ y
rows_same x y left right =
    let P : ℕ → ℕ → RowPair = λ (p q : ℕ). record { left = p; right = q } in
    ap (λ n. P n x.right) left ∙ ap (λ n. P y.left n) right

pub none_both : (x : Tally) → both no_plays x ≡ x
none_both x = tally_same _ _ (omega arith) (omega arith) (omega arith) (omega arith)

pub both_none : (x : Tally) → both x no_plays ≡ x
both_none x = tally_same _ _ (omega arith) (omega arith) (omega arith) (omega arith)

pub both_both : (x y z : Tally) → both (both x y) z ≡ both x (both y z)
both_both x y z = tally_same _ _ (omega arith) (omega arith) (omega arith) (omega arith)

with_play_both : (mine theirs : Move) (x y : Tally) → with_play mine theirs (both x y) ≡ both (with_play mine theirs x) y
with_play_both C C x y = tally_same _ _ (omega arith) (omega arith) (omega arith) (omega arith)
with_play_both C D x y = tally_same _ _ (omega arith) (omega arith) (omega arith) (omega arith)
with_play_both D C x y = tally_same _ _ (omega arith) (omega arith) (omega arith) (omega arith)
with_play_both D D x y = tally_same _ _ (omega arith) (omega arith) (omega arith) (omega arith)

-- one play more, counted at the end
pub play_last : (mine theirs : Move) (x : Tally) → with_play mine theirs x ≡ both x (with_play mine theirs no_plays)
play_last C C x = tally_same _ _ (omega arith) (omega arith) (omega arith) (omega arith)
play_last C D x = tally_same _ _ (omega arith) (omega arith) (omega arith) (omega arith)
play_last D C x = tally_same _ _ (omega arith) (omega arith) (omega arith) (omega arith)
play_last D D x = tally_same _ _ (omega arith) (omega arith) (omega arith) (omega arith)

pub total_with_play : (mine theirs : Move) (x : Tally) → total (with_play mine theirs x) ≡ total x + 1
total_with_play C C x = omega arith
total_with_play C D x = omega arith
total_with_play D C x = omega arith
total_with_play D D x = omega arith

times_more : (n : ℕ) (x : Tally) → both (times n x) x ≡ times (suc n) x
times_more n x = tally_same _ _ (omega arith) (omega arith) (omega arith) (omega arith)

times_none : (x : Tally) → no_plays ≡ times 0 x
times_none x = tally_same _ _ (omega arith) (omega arith) (omega arith) (omega arith)

module _ (a b : Automaton) where
  pub rows-add : (s : RowPair) (m n : ℕ) → rows a b s (m + n) ≡ rows a b (rows a b s m) n
  rows-add s zero n = ap (λ k. rows a b s k) (zero-add n)
  rows-add s (suc m) n =
      let e : suc m + n ≡ suc (m + n) = omega arith in
      ap (λ k. rows a b s k) e ∙ rows-add (rows a b s 1) m n

  pub counts-add : (s : RowPair) (m n : ℕ) → counts (plays a b s (m + n)) ≡ both (counts (plays a b s m)) (counts (plays a b (rows a b s m) n))
  counts-add s zero n = ap (λ k. counts (plays a b s k)) (zero-add n) ∙ sym (none_both _)
  counts-add s (suc m) n =
      let e : suc m + n ≡ suc (m + n) = omega arith in
      let play = sure_play a s.left b s.right in
      ap (λ k. counts (plays a b s k)) e
      ∙ ap (λ t. with_play play.mine play.theirs t) (counts-add (rows a b s 1) m n)
      ∙ with_play_both play.mine play.theirs _ _

  pub total_counts : (s : RowPair) (n : ℕ) → total (counts (plays a b s n)) ≡ n
  total_counts s zero = refl
  total_counts s (suc n) =
      let play = sure_play a s.left b s.right in
      omega (arith, total_with_play play.mine play.theirs (counts (plays a b (rows a b s 1) n)), total_counts (rows a b s 1) n)

  pub length_plays : (s : RowPair) (n : ℕ) → length (plays a b s n) ≡ n
  length_plays s zero = refl
  length_plays s (suc n) = omega (arith, length_plays (rows a b s 1) n)

  -- after whole cycles of l plays
  pub rows_cycle : (s : RowPair) (l : ℕ) → rows a b s l ≡ s → (c : ℕ) → rows a b s (c * l) ≡ s
  rows_cycle s l back zero = let e : zero * l ≡ zero = omega arith in ap (λ k. rows a b s k) e
  rows_cycle s l back (suc c) =
      let e : suc c * l ≡ c * l + l = omega arith in
      ap (λ k. rows a b s k) e ∙ rows-add s (c * l) l ∙ ap (λ r. rows a b r l) (rows_cycle s l back c) ∙ back

  pub counts_cycle : (s : RowPair) (l : ℕ) → rows a b s l ≡ s → (c : ℕ) → counts (plays a b s (c * l)) ≡ times c (counts (plays a b s l))
  counts_cycle s l back zero =
      let e : zero * l ≡ zero = omega arith in
      ap (λ k. counts (plays a b s k)) e ∙ times_none (counts (plays a b s l))
  counts_cycle s l back (suc c) =
      let once = counts (plays a b s l) in
      let e : suc c * l ≡ c * l + l = omega arith in
      ap (λ k. counts (plays a b s k)) e
      ∙ counts-add s (c * l) l
      ∙ ap (λ t. both t (counts (plays a b (rows a b s (c * l)) l))) (counts_cycle s l back c)
      ∙ ap (λ r. both (times c once) (counts (plays a b r l))) (rows_cycle s l back c)
      ∙ times_more c once

  -- the plays never leave the rows
  pub record IsInside (s : RowPair) : Type 0 where
    pub left : s.left < length a.rows
    pub right : s.right < length b.rows

  pub rows_inside : (s : RowPair) → IsAutomaton a → IsAutomaton b → IsInside s → (n : ℕ) → IsInside (rows a b s n)
  rows_inside s va vb h zero = h
  rows_inside s va vb h (suc n) =
      let play = sure_play a s.left b s.right in
      let next : IsInside (rows a b s 1) = record {
        left = va.closed s.left play.mine play.theirs h.left;
        right = vb.closed s.right play.theirs play.mine h.right;
      } in
      rows_inside (rows a b s 1) va vb next n
