-- How two players go on from turn to turn.
use Rattle.std.proofs.Common.{◌≡◌, ℕ, ◌+◌, ◌^◌, ◌<◌, length, sym, ◌∙◌, ap, subst, arith}
use Rattle.std.proofs.lemmas.List.{length-map}
use Rattle.history_model.specs.declared.moves.Play.{Play}
use Rattle.history_model.specs.declared.tally.Tally.{Tally}
use Rattle.history_model.specs.History.{turned_play, turned}
use Rattle.history_model.specs.Path.{sure_play, match_path}
use Rattle.history_model.specs.Tally.{with_play, counts, total}
use Rattle.player_core.specs.State.{PlayerState, more, advanced, at_start}
use Rattle.match_play.specs.Fresh.{RowPair}
use Rattle.match_play.specs.Match.{after_steps, after_match}
use Rattle.match_play.specs.Cycle.{next_plays, next_rows, led_on, both}
use Rattle.match_play.proofs.Plays.{rows-add, counts-add, length_plays, total_counts, both_none, both_both, play_last, total_with_play}

-- the players and the tally after some turns more; the first two are where they stood, and before is what was counted then
pub record Going (L R left right : PlayerState) (before tally : Tally) (turn : ℕ) : Type 0 where
  pub left_is : left ≡ led_on L (next_plays L R turn) turn
  pub right_is : right ≡ led_on R (turned (next_plays L R turn)) turn
  pub tally_is : tally ≡ both before (counts (next_plays L R turn))
  pub counted : total tally ≡ total before + turn

pub more_more : (n k j : ℕ) → more (more n k) j ≡ more n (k + j)
more_more n k j = omega arith

pub more_none : (n : ℕ) → n < 2 ^ 64 → n ≡ more n 0
more_none n fits = omega (arith, fits)

-- the rows at which two players stand
abbrev pub stand : PlayerState → PlayerState → RowPair
stand left right = record { left = left.mark; right = right.mark }

-- before the first turn
pub going_first : (L R : PlayerState) (before : Tally) → L.turns < 2 ^ 64 → R.turns < 2 ^ 64 → Going L R L R before before 0
going_first L R before left_fits right_fits = record {
  left_is = ap (λ (n : ℕ). record L { turns = n }) (more_none L.turns left_fits);
  right_is = ap (λ (n : ℕ). record R { turns = n }) (more_none R.turns right_fits);
  tally_is = sym (both_none before);
  counted = omega arith;
}

-- the play of two players where they stand
abbrev pub play_of : PlayerState → PlayerState → Play
play_of left right = sure_play left.lasting.automaton left.mark right.lasting.automaton right.mark

-- one turn on, where the two stand where their plays lead
going_at : (L R : PlayerState) (before : Tally) (turn : ℕ) → total (both before (counts (next_plays L R turn))) ≡ total before + turn
    → let play = play_of (led_on L (next_plays L R turn) turn) (led_on R (turned (next_plays L R turn)) turn) in
    Going L R (advanced (led_on L (next_plays L R turn) turn) play.mine play.theirs)
    (advanced (led_on R (turned (next_plays L R turn)) turn) play.theirs play.mine)
    before (with_play play.mine play.theirs (both before (counts (next_plays L R turn)))) (turn + 1)
going_at L R before turn counted =
    let a = L.lasting.automaton in
    let b = R.lasting.automaton in
    let play = play_of (led_on L (next_plays L R turn) turn) (led_on R (turned (next_plays L R turn)) turn) in
    let tally = both before (counts (next_plays L R turn)) in
    let there : next_rows L R (turn + 1) ≡ _ = rows-add a b (stand L R) turn 1 in
    record {
      left_is =
          sym (ap (λ (r : RowPair). record L { mark = r.left; turns = more (more L.turns turn) 1 }) there)
          ∙ ap (λ (n : ℕ). record L { mark = (next_rows L R (turn + 1)).left; turns = n }) (more_more L.turns turn 1);
      right_is =
          sym (ap (λ (r : RowPair). record R { mark = r.right; turns = more (more R.turns turn) 1 }) there)
          ∙ ap (λ (n : ℕ). record R { mark = (next_rows L R (turn + 1)).right; turns = n }) (more_more R.turns turn 1);
      tally_is =
          play_last play.mine play.theirs tally
          ∙ both_both before _ _
          ∙ ap (λ t. both before t) (sym (counts-add a b (stand L R) turn 1));
      counted = omega (arith, total_with_play play.mine play.theirs tally, counted);
    }

-- one turn on, from what a turn ensures
pub going_more : (L R left right left_new right_new : PlayerState) (before tally tally_new : Tally) (play : Play) (turn : ℕ)
    → Going L R left right before tally turn → play ≡ play_of left right
    → left_new ≡ advanced left play.mine play.theirs → right_new ≡ advanced right play.theirs play.mine
    → tally_new ≡ with_play play.mine play.theirs tally → Going L R left_new right_new before tally_new (turn + 1)
going_more L R left right left_new right_new before tally tally_new play turn h play_is left_is right_is tally_is =
    let After : PlayerState → PlayerState → Tally → Play → Type 0 =
    λ x y t q. Going L R (advanced x q.mine q.theirs) (advanced y q.theirs q.mine) before (with_play q.mine q.theirs t) (turn + 1) in
    let x = led_on L (next_plays L R turn) turn in
    let y = led_on R (turned (next_plays L R turn)) turn in
    let t = both before (counts (next_plays L R turn)) in
    let counted : total t ≡ total before + turn = sym (ap total h.tally_is) ∙ h.counted in
    let at : After x y t (play_of x y) = going_at L R before turn counted in
    let P : PlayerState → Type 0 = λ z. After z y t (play_of z y) in
    let Q : PlayerState → Type 0 = λ z. After left z t (play_of left z) in
    let S : Tally → Type 0 = λ z. After left right z (play_of left right) in
    let T : Play → Type 0 = λ q. After left right tally q in
    let after : After left right tally play =
    subst T (sym play_is) (subst S (sym h.tally_is) (subst Q (sym h.right_is) (subst P (sym h.left_is) at))) in
    let U : PlayerState → Type 0 =
    λ z. Going L R z (advanced right play.theirs play.mine) before (with_play play.mine play.theirs tally) (turn + 1) in
    let V : PlayerState → Type 0 = λ z. Going L R left_new z before (with_play play.mine play.theirs tally) (turn + 1) in
    let W : Tally → Type 0 = λ z. Going L R left_new right_new before z (turn + 1) in
    subst W (sym tally_is) (subst V (sym right_is) (subst U (sym left_is) after))

-- the next plays are as many as they are counted
pub next_total : (left right : PlayerState) (tally : Tally) (turns : ℕ) → tally ≡ counts (next_plays left right turns) → total tally ≡ turns
next_total left right tally turns tally_is =
    ap total tally_is ∙ total_counts left.lasting.automaton right.lasting.automaton (stand left right) turns

-- a match from the starts: where each player stands
pub match_left : (L R left right now : PlayerState) (turns steps : ℕ) → left ≡ at_start L → right ≡ at_start R
    → now ≡ led_on left (next_plays left right turns) steps
    → now ≡ after_steps L (match_path L.lasting.automaton R.lasting.automaton turns) steps
match_left L R left right now turns steps left_is right_is now_is =
    now_is ∙ ap (λ x. led_on x (next_plays x right turns) steps) left_is
    ∙ ap (λ y. led_on (at_start L) (next_plays (at_start L) y turns) steps) right_is

pub match_right : (L R left right now : PlayerState) (turns steps : ℕ) → left ≡ at_start L → right ≡ at_start R
    → now ≡ led_on right (turned (next_plays left right turns)) steps
    → now ≡ after_steps R (turned (match_path L.lasting.automaton R.lasting.automaton turns)) steps
match_right L R left right now turns steps left_is right_is now_is =
    now_is ∙ ap (λ x. led_on right (turned (next_plays x right turns)) steps) left_is
    ∙ ap (λ y. led_on y (turned (next_plays (at_start L) y turns)) steps) right_is

-- a match has as many plays as turns
pub match_length : (L R : PlayerState) (turns : ℕ) → turns ≡ length (match_path L.lasting.automaton R.lasting.automaton turns)
match_length L R turns = sym (length_plays L.lasting.automaton R.lasting.automaton (stand (at_start L) (at_start R)) turns)

pub played_left : (L R left right now : PlayerState) (turns : ℕ) → left ≡ at_start L → right ≡ at_start R
    → now ≡ led_on left (next_plays left right turns) turns
    → now ≡ after_match L (match_path L.lasting.automaton R.lasting.automaton turns)
played_left L R left right now turns left_is right_is now_is =
    match_left L R left right now turns turns left_is right_is now_is
    ∙ ap (λ n. after_steps L (match_path L.lasting.automaton R.lasting.automaton turns) n) (match_length L R turns)

pub played_right : (L R left right now : PlayerState) (turns : ℕ) → left ≡ at_start L → right ≡ at_start R
    → now ≡ led_on right (turned (next_plays left right turns)) turns
    → now ≡ after_match R (turned (match_path L.lasting.automaton R.lasting.automaton turns))
played_right L R left right now turns left_is right_is now_is =
    let whole = match_path L.lasting.automaton R.lasting.automaton turns in
    match_right L R left right now turns turns left_is right_is now_is
    ∙ ap (λ n. after_steps R (turned whole) n) (match_length L R turns ∙ sym (length-map whole turned_play))
