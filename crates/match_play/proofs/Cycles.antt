-- Cycles of plays: how whole ones are counted, and how marks find them.
use Rattle.std.proofs.Common.{◌≡◌, ◌≢◌, ◌⊎◌, inl, inr, ℕ, zero, suc, ◌+◌, ◌-◌, ◌*◌, ◌/◌, ◌%◌, ◌≤◌, ◌<◌, List, length, replicate, slice_set, slice_index_or, sum_by, refl, sym, ◌∙◌, ap, subst, arith}
use Rattle.std.proofs.lemmas.Bool.{cases_lt}
use Rattle.std.proofs.lemmas.Nat.{div-mul-add, mod-mul-add}
use Rattle.std.proofs.lemmas.List.{get_or-set_same, get_or-set_other, get_or-replicate}
use Rattle.std.proofs.lemmas.List.Sums.{sum_by-set}
use Rattle.std.proofs.lemmas.List.Folds.{sum_by-replicate}
use Rattle.std.proofs.Math.ListN.{length-set, length-replicate}
use Rattle.history_model.specs.declared.moves.Play.{Play}
use Rattle.history_model.specs.declared.tally.Tally.{Tally}
use Rattle.history_model.specs.History.{turned}
use Rattle.history_model.specs.Tally.{no_plays, with_play, counts, total}
use Rattle.player_core.specs.State.{PlayerState, IsState, more, advanced, at_start}
use Rattle.match_play.specs.declared.trail.Mark.{Mark}
use Rattle.match_play.specs.Fresh.{RowPair}
use Rattle.match_play.specs.Cycle.{IsCycle, HasGoneOn, next_plays, next_rows, led_on, both, times}
use Rattle.match_play.specs.Followed.{HasFollowed}
use Rattle.match_play.specs.Trail.{IsSince, since, place_of_pair}
use Rattle.match_play.proofs.Plays.{plays, rows, rows_same, rows-add, counts-add, total_counts, rows_cycle, counts_cycle, rows_inside, IsInside, tally_same, none_both, both_both}
use Rattle.match_play.proofs.Playing.{Going, going_more, play_of, stand, more_more}

-- plays from where a cycle begins: whole cycles are counted, and what is left is played
module _ (left right : PlayerState) (long turns : ℕ) (once : Tally) (h : IsCycle left right long once) where
  back : next_rows left right long ≡ stand left right
  back = rows_same _ _ h.back_left h.back_right

  parts : turns ≡ turns / long * long + turns % long
  parts = let some : 0 < long = h.some in omega arith

  cycle_rows : next_rows left right turns ≡ next_rows left right (turns % long)
  cycle_rows =
      let a = left.lasting.automaton in
      let b = right.lasting.automaton in
      let s = stand left right in
      ap (λ n. rows a b s n) parts
      ∙ rows-add a b s (turns / long * long) (turns % long)
      ∙ ap (λ r. rows a b r (turns % long)) (rows_cycle a b s long back (turns / long))

  cycle_counts : counts (next_plays left right turns) ≡ both (times (turns / long) once) (counts (next_plays left right (turns % long)))
  cycle_counts =
      let a = left.lasting.automaton in
      let b = right.lasting.automaton in
      let s = stand left right in
      let cycles = turns / long in
      let rest = turns % long in
      ap (λ n. counts (plays a b s n)) parts
      ∙ counts-add a b s (cycles * long) rest
      ∙ ap (λ r. both (counts (plays a b s (cycles * long))) (counts (plays a b r rest))) (rows_cycle a b s long back cycles)
      ∙ ap (λ t. both t (counts (plays a b s rest))) (counts_cycle a b s long back cycles)
      ∙ ap (λ t. both (times cycles t) (counts (plays a b s rest))) (sym h.counted)

  cycle_total : total once ≡ long
  cycle_total = ap total h.counted ∙ total_counts left.lasting.automaton right.lasting.automaton (stand left right) long

  pub cycles_fit : (before most : ℕ) → before + turns ≤ most → before + turns / long * total once ≤ most
  cycles_fit before most few = omega (arith, few, parts, ap (λ n. turns / long * n) cycle_total)

  pub rest_fits : (before grown : Tally) (most : ℕ) → grown ≡ both before (times (turns / long) once) → total before + turns ≤ most
      → total grown + turns % long ≤ most
  rest_fits before grown most grown_is few =
      let e : total grown ≡ total before + turns / long * total once = ap total grown_is ∙ omega arith in
      omega (arith, e, few, parts, ap (λ n. turns / long * n) cycle_total)

  pub cycle_tally : (before grown now : Tally) → grown ≡ both before (times (turns / long) once)
      → now ≡ both grown (counts (next_plays left right (turns % long))) → now ≡ both before (counts (next_plays left right turns))
  cycle_tally before grown now grown_is now_is =
      now_is
      ∙ ap (λ t. both t (counts (next_plays left right (turns % long)))) grown_is
      ∙ both_both before _ _
      ∙ ap (λ t. both before t) (sym cycle_counts)

  pub cycle_left : (now : PlayerState) → now ≡ led_on left (next_plays left right (turns % long)) (turns % long)
      → now ≡ led_on left (next_plays left right turns) (turns % long)
  cycle_left now now_is =
      now_is ∙ ap (λ (r : RowPair). record left { mark = r.left; turns = more left.turns (turns % long) }) (sym cycle_rows)

  pub cycle_right : (now : PlayerState) → now ≡ led_on right (turned (next_plays left right (turns % long))) (turns % long)
      → now ≡ led_on right (turned (next_plays left right turns)) (turns % long)
  cycle_right now now_is =
      now_is ∙ ap (λ (r : RowPair). record right { mark = r.right; turns = more right.turns (turns % long) }) (sym cycle_rows)

-- the mark of turn i, made at this place before the match came to a turn; the first two are where the players stood at first
pub record MarkedAt (L R : PlayerState) (turn place i : ℕ) (mark : Mark) : Type 0 where
  pub before : i < turn
  pub place_is : place_of_pair (length R.lasting.automaton.rows) (next_rows L R i).left (next_rows L R i).right ≡ place
  pub cc : mark.cc ≡ (counts (next_plays L R i)).cc
  pub cd : mark.cd ≡ (counts (next_plays L R i)).cd
  pub dc : mark.dc ≡ (counts (next_plays L R i)).dc

abbrev pub IsMark : PlayerState → PlayerState → ℕ → ℕ → Mark → Type 0
IsMark L R turn place mark = (i : ℕ) → mark.turn ≡ i + 1 → MarkedAt L R turn place i mark

abbrev pub AreMarks : PlayerState → PlayerState → ℕ → List Mark → Type 0
AreMarks L R turn marks = (place : ℕ) (d : Mark) → place < length marks → IsMark L R turn place (slice_index_or marks place d)

-- 1 where there is no mark
abbrev pub unset : ℕ → ℕ
unset zero = 1
unset (suc n) = 0

-- how many pairs of rows have no mark
abbrev pub unmarked : List Mark → ℕ
unmarked marks = sum_by (λ mark. unset mark.turn) marks

-- the players, the tally and the marks after some turns
pub record Following (L R left right : PlayerState) (tally : Tally) (marks : List Mark) (columns turn pairs : ℕ) : Type 0 where
  pub going : Going L R left right no_plays tally turn
  pub marks_are : AreMarks L R turn marks
  pub unused : unmarked marks + turn ≡ pairs
  pub size : length marks ≡ pairs
  pub columns_are : columns ≡ length R.lasting.automaton.rows

-- n plays more, of which r were advanced, from where the players stand after some turns
module _ (L R left right : PlayerState) (before tally : Tally) (turn n : ℕ) (h : Going L R left right before tally turn) where
  further_rows : next_rows (led_on L (next_plays L R turn) turn) (led_on R (turned (next_plays L R turn)) turn) n ≡ next_rows L R (turn + n)
  further_rows = sym (rows-add L.lasting.automaton R.lasting.automaton (stand L R) turn n)

  pub further_left : (r : ℕ) (now : PlayerState) → now ≡ led_on left (next_plays left right n) r → now ≡ led_on L (next_plays L R (turn + n)) (turn + r)
  further_left r now now_is =
      let x = led_on L (next_plays L R turn) turn in
      now_is
      ∙ ap (λ z. led_on z (next_plays z right n) r) h.left_is
      ∙ ap (λ z. led_on x (next_plays x z n) r) h.right_is
      ∙ ap (λ (p : RowPair). record L { mark = p.left; turns = more (more L.turns turn) r }) further_rows
      ∙ ap (λ (k : ℕ). record L { mark = (next_rows L R (turn + n)).left; turns = k }) (more_more L.turns turn r)

  pub further_right : (r : ℕ) (now : PlayerState) → now ≡ led_on right (turned (next_plays left right n)) r
      → now ≡ led_on R (turned (next_plays L R (turn + n))) (turn + r)
  further_right r now now_is =
      let x = led_on L (next_plays L R turn) turn in
      now_is
      ∙ ap (λ z. led_on right (turned (next_plays z right n)) r) h.left_is
      ∙ ap (λ z. led_on z (turned (next_plays x z n)) r) h.right_is
      ∙ ap (λ (p : RowPair). record R { mark = p.right; turns = more (more R.turns turn) r }) further_rows
      ∙ ap (λ (k : ℕ). record R { mark = (next_rows L R (turn + n)).right; turns = k }) (more_more R.turns turn r)

  pub further_tally : (now : Tally) → now ≡ both tally (counts (next_plays left right n)) → now ≡ both before (counts (next_plays L R (turn + n)))
  further_tally now now_is =
      let x = led_on L (next_plays L R turn) turn in
      now_is
      ∙ ap (λ z. both tally (counts (next_plays z right n))) h.left_is
      ∙ ap (λ z. both tally (counts (next_plays x z n))) h.right_is
      ∙ ap (λ t. both t (counts (plays L.lasting.automaton R.lasting.automaton (next_rows L R turn) n))) h.tally_is
      ∙ both_both before _ _
      ∙ ap (λ t. both before t) (sym (counts-add L.lasting.automaton R.lasting.automaton (stand L R) turn n))

-- places of pairs of rows are different
same_place : (w : ℕ) (p q : RowPair) → p.right < w → q.right < w → place_of_pair w p.left p.right ≡ place_of_pair w q.left q.right → p ≡ q
same_place w p q hp hq e =
    rows_same p q
    (sym (div-mul-add p.left w p.right hp) ∙ ap (λ n. n / w) e ∙ div-mul-add q.left w q.right hq)
    (sym (mod-mul-add p.left w p.right hp) ∙ ap (λ n. n % w) e ∙ mod-mul-add q.left w q.right hq)

-- what was counted since a mark
since_counted : (mark : Mark) (tally first once : Tally) (long : ℕ) → tally ≡ both first once → mark.cc ≡ first.cc → mark.cd ≡ first.cd
    → mark.dc ≡ first.dc → total once ≡ long → IsSince mark tally long × (since mark tally long ≡ once)
since_counted mark tally first once long tally_is cc cd dc all =
    let tcc : tally.cc ≡ first.cc + once.cc = ap (λ (t : Tally). t.cc) tally_is in
    let tcd : tally.cd ≡ first.cd + once.cd = ap (λ (t : Tally). t.cd) tally_is in
    let tdc : tally.dc ≡ first.dc + once.dc = ap (λ (t : Tally). t.dc) tally_is in
    let ecc : tally.cc - mark.cc ≡ once.cc = omega (arith, tcc, cc) in
    let ecd : tally.cd - mark.cd ≡ once.cd = omega (arith, tcd, cd) in
    let edc : tally.dc - mark.dc ≡ once.dc = omega (arith, tdc, dc) in (
      record {
        cc = omega (arith, tcc, cc);
        cd = omega (arith, tcd, cd);
        dc = omega (arith, tdc, dc);
        few = omega (arith, ecc, ecd, edc, all);
      },
      tally_same _ _ ecc ecd edc (omega (arith, ecc, ecd, edc, all)),
    )

-- turn i had the pair of rows of this turn
pub record Found (L R left right : PlayerState) (tally : Tally) (mark : Mark) (turn long : ℕ) : Type 0 where
  pub i : ℕ
  pub turn_is : mark.turn ≡ i + 1
  pub parts : i + long ≡ turn
  pub some : 0 < long
  pub again : next_rows L R i ≡ next_rows L R turn
  pub is_since : IsSince mark tally long
  pub cycle : IsCycle left right long (since mark tally long)

module _ (L R left right : PlayerState) (tally : Tally) (mark : Mark) (turn long place i : ℕ) (h : Going L R left right no_plays tally turn)
    (turn_is : mark.turn ≡ i + 1) (m : MarkedAt L R turn place i mark) (parts : i + long ≡ turn) (again : next_rows L R i ≡ next_rows L R turn) where
  period : next_rows (led_on L (next_plays L R turn) turn) (led_on R (turned (next_plays L R turn)) turn) long ≡ next_rows L R turn
  period =
      let a = L.lasting.automaton in
      let b = R.lasting.automaton in
      sym (ap (λ p. rows a b p long) again) ∙ sym (rows-add a b (stand L R) i long) ∙ ap (λ n. rows a b (stand L R) n) parts

  -- the plays since turn i
  abbrev plays_since : Tally
  plays_since = counts (plays L.lasting.automaton R.lasting.automaton (next_rows L R turn) long)

  between : tally ≡ both (counts (next_plays L R i)) plays_since
  between =
      let a = L.lasting.automaton in
      let b = R.lasting.automaton in
      h.tally_is
      ∙ none_both _
      ∙ sym (ap (λ n. counts (plays a b (stand L R) n)) parts)
      ∙ counts-add a b (stand L R) i long
      ∙ ap (λ p. both (counts (next_plays L R i)) (counts (plays a b p long))) again

  counted_since : IsSince mark tally long × (since mark tally long ≡ plays_since)
  counted_since =
      since_counted mark tally (counts (next_plays L R i)) plays_since long between m.cc m.cd m.dc
      (total_counts L.lasting.automaton R.lasting.automaton (next_rows L R turn) long)

  cycle_here : IsCycle (led_on L (next_plays L R turn) turn) (led_on R (turned (next_plays L R turn)) turn) long (since mark tally long)
  cycle_here =
      let before = m.before in
      record {
        some = omega arith;
        back_left = ap (λ (p : RowPair). p.left) period;
        back_right = ap (λ (p : RowPair). p.right) period;
        counted = counted_since.1;
      }

  found_at : Found L R left right tally mark turn long
  found_at =
      let before = m.before in
      let P : PlayerState → Type 0 = λ x. IsCycle x (led_on R (turned (next_plays L R turn)) turn) long (since mark tally long) in
      let Q : PlayerState → Type 0 = λ y. IsCycle left y long (since mark tally long) in
      record {
        i = i;
        turn_is = turn_is;
        parts = parts;
        some = omega arith;
        again = again;
        is_since = counted_since.0;
        cycle = subst Q (sym h.right_is) (subst P (sym h.left_is) cycle_here);
      }

-- the place of a pair of rows is a place of the marks
inside_marks : (L R left right : PlayerState) (tally : Tally) (marks : List Mark) (columns turn pairs place : ℕ)
    → Following L R left right tally marks columns turn pairs → pairs ≡ length L.lasting.automaton.rows * length R.lasting.automaton.rows
    → place < length left.lasting.automaton.rows * length right.lasting.automaton.rows → place < length marks
inside_marks L R left right tally marks columns turn pairs place h pairs_are within =
    let rows_of : PlayerState → ℕ = λ (x : PlayerState). length x.lasting.automaton.rows in
    let same : rows_of left * rows_of right ≡ rows_of L * rows_of R =
    ap (λ (x : PlayerState). rows_of x * rows_of right) h.going.left_is ∙ ap (λ (y : PlayerState). rows_of L * rows_of y) h.going.right_is in
    omega (arith, within, same, pairs_are, h.size)

-- where the pair of rows has a mark, it has been met before
pub found : (L R left right : PlayerState) (tally : Tally) (marks : List Mark) (columns turn pairs place : ℕ) (d : Mark) → IsState L → IsState R
    → Following L R left right tally marks columns turn pairs → pairs ≡ length L.lasting.automaton.rows * length R.lasting.automaton.rows
    → place ≡ place_of_pair columns left.mark right.mark → place < length left.lasting.automaton.rows * length right.lasting.automaton.rows
    → (slice_index_or marks place d).turn ≢ 0
    → Found L R left right tally (slice_index_or marks place d) turn (turn + 1 - (slice_index_or marks place d).turn)
found L R left right tally marks columns turn pairs place d vL vR h pairs_are place_is within set =
    let inside = inside_marks L R left right tally marks columns turn pairs place h pairs_are within in
    let mark = slice_index_or marks place d in
    let i = mark.turn - 1 in
    let e : mark.turn ≡ i + 1 = omega arith in
    let m : MarkedAt L R turn place i mark = h.marks_are place d inside i e in
    let before = m.before in
    let a = L.lasting.automaton in
    let b = R.lasting.automaton in
    let start : IsInside a b (stand L R) = record { left = vL.inside; right = vR.inside } in
    let then = rows_inside a b (stand L R) vL.automaton vR.automaton start i in
    let now = rows_inside a b (stand L R) vL.automaton vR.automaton start turn in
    let w = length b.rows in
    let here : place ≡ place_of_pair w (next_rows L R turn).left (next_rows L R turn).right =
    place_is
    ∙ ap (λ n. place_of_pair n left.mark right.mark) h.columns_are
    ∙ ap (λ (x : PlayerState). place_of_pair w x.mark right.mark) h.going.left_is
    ∙ ap (λ (y : PlayerState). place_of_pair w (next_rows L R turn).left y.mark) h.going.right_is in
    found_at L R left right tally mark turn (turn + 1 - mark.turn) place i h.going e m (omega arith)
    (same_place w _ _ then.right now.right (m.place_is ∙ here))

pub cycle_found : (L R left right : PlayerState) (tally once : Tally) (mark : Mark) (turn long : ℕ) → Found L R left right tally mark turn long
    → once ≡ since mark tally long → IsCycle left right long once
cycle_found L R left right tally once mark turn long f once_is =
    let P : Tally → Type 0 = λ t. IsCycle left right long t in
    subst P (sym once_is) f.cycle

-- the first turns of a match, as long as its rows are new, lie before one whose pair of rows has been met before
fresh_below : (L R : PlayerState) (i turn j more_turns : ℕ) → i < turn → next_rows L R i ≡ next_rows L R turn
    → ((i k : ℕ) → i < k → k < j → next_rows L R i ≢ next_rows L R k) → (turn < j) ⊎ (j ≤ turn) → j ≤ turn + more_turns
fresh_below L R i turn j more_turns below again differ (inl h) = absurd (differ i turn below h again)
fresh_below L R i turn j more_turns below again differ (inr h) = omega arith

-- where a cycle was found, and the rest was gone on by it
pub gone_by_cycle : (L R left right left_now right_now : PlayerState) (tally : Tally) (marks : List Mark) (mark : Mark) (columns turn turns long pairs : ℕ)
    → Following L R left right tally marks columns turn pairs → Found L R left right tally mark turn long → turn < turns
    → pairs ≡ length L.lasting.automaton.rows * length R.lasting.automaton.rows
    → left_now ≡ led_on left (next_plays left right (turns - turn)) ((turns - turn) % long)
    → right_now ≡ led_on right (turned (next_plays left right (turns - turn))) ((turns - turn) % long)
    → HasGoneOn L R left_now right_now turns
gone_by_cycle L R left right left_now right_now tally marks mark columns turn turns long pairs following f within pairs_are left_is right_is =
    let h = following.going in
    let few = following.unused in
    let rest = (turns - turn) % long in
    let some = f.some in
    let parts = f.parts in
    let short : rest < long = omega arith in
    let all : turn + (turns - turn) ≡ turns = omega arith in
    let below : f.i < turn = omega arith in
    let P : ℕ → Type 0 = λ n. left_now ≡ led_on L (next_plays L R n) (turn + rest) in
    let Q : ℕ → Type 0 = λ n. right_now ≡ led_on R (turned (next_plays L R n)) (turn + rest) in
    record {
      steps = turn + rest;
      within = omega (arith, short, parts, few, pairs_are);
      fresh = λ j _ differ. fresh_below L R f.i turn j rest below f.again differ (cases_lt turn j);
      left_is = subst P all (further_left L R left right no_plays tally turn (turns - turn) h rest left_now left_is);
      right_is = subst Q all (further_right L R left right no_plays tally turn (turns - turn) h rest right_now right_is);
    }

pub counted_by_cycle : (L R left right : PlayerState) (tally now : Tally) (turn turns : ℕ) → Going L R left right no_plays tally turn → turn < turns
    → now ≡ both tally (counts (next_plays left right (turns - turn))) → now ≡ counts (next_plays L R turns)
counted_by_cycle L R left right tally now turn turns h within now_is =
    let all : turn + (turns - turn) ≡ turns = omega arith in
    further_tally L R left right no_plays tally turn (turns - turn) h now now_is ∙ none_both _ ∙ ap (λ n. counts (next_plays L R n)) all

-- before the first turn
no_mark : (L R : PlayerState) (place : ℕ) (mark : Mark) → mark.turn ≡ 0 → IsMark L R 0 place mark
no_mark L R place mark none i e = absurd (omega (arith, none, e))

pub marks_first : (L R : PlayerState) (n : ℕ) (mark : Mark) → mark.turn ≡ 0 → AreMarks L R 0 (replicate n mark)
marks_first L R n mark none place d inside =
    let P : Mark → Type 0 = λ k. IsMark L R 0 place k in
    subst P (sym (get_or-replicate n place mark d (omega (arith, inside, length-replicate n mark)))) (no_mark L R place mark none)

pub unmarked_first : (n : ℕ) (mark : Mark) → mark.turn ≡ 0 → unmarked (replicate n mark) ≡ n
unmarked_first n mark none =
    let e : unset mark.turn ≡ 1 = ap unset none in
    sum_by-replicate (λ k. unset k.turn) n mark ∙ omega (arith, ap (λ k. n * k) e)

-- one mark more
mark_later : (L R : PlayerState) (turn place : ℕ) (mark : Mark) → IsMark L R turn place mark → IsMark L R (turn + 1) place mark
mark_later L R turn place mark h i e =
    let m = h i e in
    let before = m.before in
    record { before = omega arith; place_is = m.place_is; cc = m.cc; cd = m.cd; dc = m.dc }

pub marks_more : (L R : PlayerState) (turn place : ℕ) (marks : List Mark) (mark : Mark) → AreMarks L R turn marks → place < length marks
    → IsMark L R (turn + 1) place mark → AreMarks L R (turn + 1) (slice_set marks place mark)
marks_more L R turn place marks mark h inside here j d within =
    let still : j < length marks = omega (arith, length-set marks place mark, within) in
    by_place (cases_lt j place) (cases_lt place j) still
  where
    other : j ≢ place → j < length marks → IsMark L R (turn + 1) j (slice_index_or (slice_set marks place mark) j d)
    other ne w = rw (get_or-set_other marks place j mark d ne) (mark_later L R turn j (slice_index_or marks j d) (h j d w))

    by_place : (j < place) ⊎ (place ≤ j) → (place < j) ⊎ (j ≤ place) → j < length marks → IsMark L R (turn + 1) j (slice_index_or (slice_set marks place mark) j d)
    by_place (inl p) q w = other (omega arith) w
    by_place (inr p) (inl q) w = other (omega arith) w
    by_place (inr p) (inr q) w =
        let e : place ≡ j = omega arith in
        let P : ℕ → Type 0 = λ k. IsMark L R (turn + 1) k (slice_index_or (slice_set marks place mark) k d) in
        subst P e (rw (get_or-set_same marks place mark d inside) here)

-- the mark of this turn, of the rows where the players stand
pub mark_here : (L R left right : PlayerState) (tally : Tally) (columns turn place : ℕ) (mark : Mark) → Going L R left right no_plays tally turn
    → columns ≡ length R.lasting.automaton.rows → place ≡ place_of_pair columns left.mark right.mark → mark.turn ≡ turn + 1
    → mark.cc ≡ tally.cc → mark.cd ≡ tally.cd → mark.dc ≡ tally.dc → IsMark L R (turn + 1) place mark
mark_here L R left right tally columns turn place mark h columns_are place_is turn_is cc cd dc i e =
    let same : turn ≡ i = omega (arith, turn_is, e) in
    let w = length R.lasting.automaton.rows in
    let tally_is : tally ≡ counts (next_plays L R turn) = h.tally_is ∙ none_both _ in
    let here : MarkedAt L R (turn + 1) place turn mark = record {
      before = omega arith;
      place_is =
          sym (place_is
          ∙ ap (λ n. place_of_pair n left.mark right.mark) columns_are
          ∙ ap (λ (x : PlayerState). place_of_pair w x.mark right.mark) h.left_is
          ∙ ap (λ (y : PlayerState). place_of_pair w (next_rows L R turn).left y.mark) h.right_is);
      cc = cc ∙ ap (λ (t : Tally). t.cc) tally_is;
      cd = cd ∙ ap (λ (t : Tally). t.cd) tally_is;
      dc = dc ∙ ap (λ (t : Tally). t.dc) tally_is;
    } in
    let P : ℕ → Type 0 = λ n. MarkedAt L R (turn + 1) place n mark in
    subst P same here

unset_some : (n : ℕ) → 0 < n → unset n ≡ 0
unset_some zero h = absurd (omega arith)
unset_some (suc n) h = refl

-- one pair of rows less has no mark
unmarked_more : (marks : List Mark) (place : ℕ) (d mark : Mark) → place < length marks → (slice_index_or marks place d).turn ≡ 0 → 0 < mark.turn
    → unmarked (slice_set marks place mark) + 1 ≡ unmarked marks
unmarked_more marks place d mark inside none some =
    let e = sum_by-set (λ k. unset k.turn) marks place mark d inside in
    let was : unset (slice_index_or marks place d).turn ≡ 1 = ap unset none in
    let now : unset mark.turn ≡ 0 = unset_some mark.turn some in
    omega (arith, e, was, now)

-- what a turn changes
pub record Turned (left right left_new right_new : PlayerState) (tally tally_new : Tally) (play : Play) : Type 0 where
  pub play_is : play ≡ play_of left right
  pub left_is : left_new ≡ advanced left play.mine play.theirs
  pub right_is : right_new ≡ advanced right play.theirs play.mine
  pub tally_is : tally_new ≡ with_play play.mine play.theirs tally

-- the mark of a turn
pub record Marking (tally : Tally) (mark : Mark) (turn : ℕ) : Type 0 where
  pub turn_is : mark.turn ≡ turn + 1
  pub cc : mark.cc ≡ tally.cc
  pub cd : mark.cd ≡ tally.cd
  pub dc : mark.dc ≡ tally.dc

-- one turn on, where the pair of rows had no mark
pub following_more : (L R left right left_new right_new : PlayerState) (tally tally_new : Tally) (marks : List Mark) (columns turn pairs place : ℕ) (d mark : Mark) (play : Play)
    → Following L R left right tally marks columns turn pairs → pairs ≡ length L.lasting.automaton.rows * length R.lasting.automaton.rows
    → place ≡ place_of_pair columns left.mark right.mark → place < length left.lasting.automaton.rows * length right.lasting.automaton.rows
    → (slice_index_or marks place d).turn ≡ 0 → Marking tally mark turn → Turned left right left_new right_new tally tally_new play
    → Following L R left_new right_new tally_new (slice_set marks place mark) columns (turn + 1) pairs
following_more L R left right left_new right_new tally tally_new marks columns turn pairs place d mark play h pairs_are place_is within none m t =
    let inside = inside_marks L R left right tally marks columns turn pairs place h pairs_are within in
    let turn_is = m.turn_is in
    let some : 0 < mark.turn = omega arith in
    record {
      going = going_more L R left right left_new right_new no_plays tally tally_new play turn h.going t.play_is t.left_is t.right_is t.tally_is;
      marks_are = marks_more L R turn place marks mark h.marks_are inside
          (mark_here L R left right tally columns turn place mark h.going h.columns_are place_is m.turn_is m.cc m.cd m.dc);
      unused = omega (arith, unmarked_more marks place d mark inside none some, h.unused);
      size = length-set marks place mark ∙ h.size;
      columns_are = h.columns_are;
    }

-- a match that was gone on with from the starts
pub match_followed : (L R left right left_now right_now : PlayerState) (turns : ℕ) → left ≡ at_start L → right ≡ at_start R
    → HasGoneOn left right left_now right_now turns → HasFollowed L R left_now right_now turns
match_followed L R left right left_now right_now turns left_is right_is h =
    let P : PlayerState → Type 0 = λ x. HasGoneOn x right left_now right_now turns in
    let Q : PlayerState → Type 0 = λ y. HasGoneOn (at_start L) y left_now right_now turns in
    let g : HasGoneOn (at_start L) (at_start R) left_now right_now turns = subst Q right_is (subst P left_is h) in
    record {
      steps = g.steps;
      within = g.within;
      fresh = λ j f. g.fresh j f.within f.differ;
      left_is = g.left_is;
      right_is = g.right_is;
    }
