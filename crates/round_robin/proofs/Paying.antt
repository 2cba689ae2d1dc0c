-- What a sure match pays is what both sides expect.
use Rattle.std.proofs.Common.{◌≡◌, ◌⊎◌, inl, inr, ℕ, zero, suc, ◌+◌, ◌-◌, ◌*◌, ◌^◌, ◌≤◌, ◌<◌, ◌==◌, true, false, ◌∷◌, length, if◌then◌else◌, Option, Some, None, pos, ◌-ℤ◌, ◌*ℤ◌, refl, sym, ◌∙◌, ap, subst, arith}
use Rattle.std.proofs.lemmas.Bool.Decides.{nat_tests}
use Rattle.std.proofs.lemmas.Int.{ints}
use Rattle.std.proofs.Math.IntN.{pos-*ℤ-pos}
use Rattle.std.proofs.Math.Nat.{mul-pos, one-le-pow, pow-suc}
use Rattle.history_model.specs.declared.moves.Move.{Move}
use Rattle.history_model.specs.declared.moves.Move.TheVariants.{C, D}
use Rattle.history_model.specs.declared.moves.Play.{Play}
use Rattle.history_model.specs.Automaton.{Automaton, weight_at, next_row}
use Rattle.history_model.specs.Expectation.{player, quotient, shown, over_plays, expectation, expected_points, expected_by_rows, AutomataAreWeighed, OffsetLowers, HistoriesAgreeWithRows}
use Rattle.history_model.specs.Game.{Payoffs, pay}
use Rattle.history_model.specs.History.{History, turned_play, turned, points}
use Rattle.history_model.specs.Noise.{FlipRate}
use Rattle.history_model.specs.Path.{sure_move, sure_play, path, match_path}
use Rattle.history_model.specs.Tally.{counts, left_points, right_points, CountsArePaid}
use Rattle.history_model.specs.declared.tally.Tally.{Tally}
use Rattle.fixed_span.specs.Span.{Ends, Fraction, Holds, point, score_units}
use Rattle.product_chain.specs.Expected.{expected_score, IsSureMatch}
use Rattle.round_robin.specs.Laws.{AreSides, ArePointsExpected, HoldsExpectations}
use Rattle.round_robin.specs.Line.{IsScored}
use Rattle.result_lines.specs.declared.line.MatchLine.{MatchLine}

-- all of a number at one move, and none at the other
abbrev only : Move → ℕ → Move → ℕ
only C x C = x
only C x D = 0
only D x C = 0
only D x D = x

-- a sure player whose moves aren't flipped shows one move alone
shown_only : (na : FlipRate) (den w : ℕ) (mine : Move) → 1 ≤ den → na.n ≡ 0 → (w ≡ 0) ⊎ (w ≡ den)
    → shown na den w mine ≡ only (if w == den then C else D) (den * na.e) mine
shown_only na den w C some still sure =
    let kept : na.e - 0 ≡ na.e = omega arith in
    let full : den - 0 ≡ den = omega arith in
    elim sure [
      | inl none ↦ let other : (w == den) ≡ false = grind (arith, nat_tests) in rw other (rw (none, still, kept, full) (omega arith))
      | inr all ↦ let same : (w == den) ≡ true = grind (arith, nat_tests) in rw same (rw (all, still, kept) (omega arith))
    ]
shown_only na den w D some still sure =
    let kept : na.e - 0 ≡ na.e = omega arith in
    let full : den - 0 ≡ den = omega arith in
    let gone : den - den ≡ 0 = omega arith in
    elim sure [
      | inl none ↦ let other : (w == den) ≡ false = grind (arith, nat_tests) in rw other (rw (none, still, kept, full) (omega arith))
      | inr all ↦ let same : (w == den) ≡ true = grind (arith, nat_tests) in rw same (rw (all, still, kept, gone) (omega arith))
    ]

-- so one play is left of the four
over_only : (m t : Move) (p q : ℕ) (f : Play → ℕ)
    → over_plays (λ play. only m p play.mine * only t q play.theirs * f play) ≡ p * q * f (record { mine = m; theirs = t })
over_only C C p q f = omega arith
over_only C D p q f = omega arith
over_only D C p q f = omega arith
over_only D D p q f = omega arith

over_plays-same : (f g : Play → ℕ) → ((play : Play) → f play ≡ g play) → over_plays f ≡ over_plays g
over_plays-same f g e =
    omega (arith, e (record { mine = C; theirs = C }), e (record { mine = C; theirs = D }), e (record { mine = D; theirs = C }), e (record { mine = D; theirs = D }))

-- a sure match from a pair of rows
module _ (a : Automaton) (na : FlipRate) (b : Automaton) (nb : FlipRate) (game : Payoffs) (sides : AreSides a na b nb) (sure : IsSureMatch a na b nb) where
  abbrev whole : ℕ
  whole = (a.den * na.e) * (b.den * nb.e)

  -- what comes of a first play
  abbrev rest : ℕ → ℕ → ℕ → Play → ℕ
  rest n u v play = pay game play.mine play.theirs * whole ^ n + expected_by_rows a na b nb game n (next_row a u play) (next_row b v (turned_play play))

  first_play : (n u v : ℕ) → u < length a.rows → v < length b.rows
      → expected_by_rows a na b nb game (suc n) u v ≡ whole * rest n u v (sure_play a u b v)
  first_play n u v inside beside =
      over_plays-same
      (λ play. shown na a.den (weight_at a u) play.mine * shown nb b.den (weight_at b v) play.theirs * rest n u v play)
      (λ play. only (sure_move a u) (a.den * na.e) play.mine * only (sure_move b v) (b.den * nb.e) play.theirs * rest n u v play)
      (λ play.
      rw (
        shown_only na a.den (weight_at a u) play.mine sides.left.some sure.left_still (sure.left u inside),
        shown_only nb b.den (weight_at b v) play.theirs sides.right.some sure.right_still (sure.right v beside),
      ) refl)
      ∙ over_only (sure_move a u) (sure_move b v) (a.den * na.e) (b.den * nb.e) (rest n u v)

  by_rows : (n u v : ℕ) → u < length a.rows → v < length b.rows
      → expected_by_rows a na b nb game n u v ≡ points game (path a u b v n) * whole ^ n
  by_rows zero u v inside beside = omega arith
  by_rows (suc n) u v inside beside =
      let play = sure_play a u b v in
      let later = by_rows n (next_row a u play) (next_row b v (turned_play play)) (sides.left.closed u play.mine play.theirs inside) (sides.right.closed v play.theirs play.mine beside) in
      first_play n u v inside beside
      ∙ ap (λ x. whole * (pay game play.mine play.theirs * whole ^ n + x)) later
      ∙ omega (arith, ap (λ x. (pay game play.mine play.theirs + points game (path a (next_row a u play) b (next_row b v (turned_play play)) n)) * x) (pow-suc whole n))

-- what a side of a sure match expects
expects : AutomataAreWeighed → OffsetLowers → HistoriesAgreeWithRows → (a : Automaton) (na : FlipRate) (b : Automaton) (nb : FlipRate) (game : Payoffs) (n : ℕ)
    → AreSides a na b nb → IsSureMatch a na b nb
    → expectation (player a) na (player b) nb game 0 n ≡ pos (points game (match_path a b n) * quotient (player a) na (player b) nb ^ n)
expects weighed lowers agree a na b nb game n sides sure =
    let left = weighed a a.start sides.left sides.left.started in
    let right = weighed b b.start sides.right sides.right.started in
    let q = quotient (player a) na (player b) nb in
    let none : 0 * n * q ^ n ≡ 0 = omega arith in
    let all : (x : ℕ) → pos x -ℤ pos 0 ≡ pos x = λ x. omega (arith, ints) in
    lowers (player a) na (player b) nb game 0 n left sides.left_rate right sides.right_rate
    ∙ ap (λ x. pos (expected_points (player a) na (player b) nb game n) -ℤ pos x) none
    ∙ all (expected_points (player a) na (player b) nb game n)
    ∙ ap pos (agree a na b nb game n a.start b.start sides.left sides.left_rate sides.right sides.right_rate sides.left.started sides.right.started
    ∙ by_rows a na b nb game sides sure n a.start b.start sides.left.started sides.right.started)

-- the path as the other side sees it
path_turned : (a : Automaton) (u : ℕ) (b : Automaton) (v n : ℕ) → path b v a u n ≡ turned (path a u b v n)
path_turned a u b v zero = refl
path_turned a u b v (suc n) =
    let play = sure_play a u b v in
    ap (λ (h : History). turned_play play ∷ h) (path_turned a (next_row a u play) b (next_row b v (turned_play play)) n)

pub points_expected : AutomataAreWeighed → OffsetLowers → HistoriesAgreeWithRows → CountsArePaid → (a : Automaton) (na : FlipRate) (b : Automaton) (nb : FlipRate) (game : Payoffs) (n : ℕ)
    → AreSides a na b nb → IsSureMatch a na b nb → ArePointsExpected a na b nb game n
points_expected weighed lowers agree paid a na b nb game n sides sure =
    let others : AreSides b nb a na = record { left = sides.right; left_rate = sides.right_rate; right = sides.left; right_rate = sides.left_rate } in
    let turned_sure : IsSureMatch b nb a na = record { left = sure.right; left_still = sure.right_still; right = sure.left; right_still = sure.left_still } in
    let both = paid game (match_path a b n) in
    record {
      left = expects weighed lowers agree a na b nb game n sides sure ∙ ap (λ x. pos (x * quotient (player a) na (player b) nb ^ n)) (sym both.left);
      right = expects weighed lowers agree b nb a na game n others turned_sure
          ∙ ap (λ (h : History). pos (points game h * quotient (player b) nb (player a) na ^ n)) (path_turned a a.start b b.start n)
          ∙ ap (λ x. pos (x * quotient (player b) nb (player a) na ^ n)) (sym both.right);
    }

-- the denominator of what two sides expect is above 0
some_quotient : (a : Automaton) (na : FlipRate) (b : Automaton) (nb : FlipRate) (n : ℕ) → AreSides a na b nb → 0 < quotient (player a) na (player b) nb ^ n
some_quotient a na b nb n sides =
    one-le-pow n (quotient (player a) na (player b) nb)
    (mul-pos (mul-pos (omega (arith, sides.left.some)) (omega (arith, sides.left_rate.some))) (mul-pos (omega (arith, sides.right.some)) (omega (arith, sides.right_rate.some))))

-- a point holds the fraction that is as many whole points
held_point : (units k q : ℕ) (x : Fraction) → 0 < q → x.numerator ≡ pos (k * q) → x.denominator ≡ q → Holds units (point (pos (k * units))) x
held_point units k q x some above below =
    let left : pos (k * units) *ℤ pos x.denominator ≡ pos (k * units * q) = ap (λ d. pos (k * units) *ℤ pos d) below ∙ pos-*ℤ-pos (k * units) q in
    let right : pos units *ℤ x.numerator ≡ pos (k * units * q) = ap (λ d. pos units *ℤ d) above ∙ pos-*ℤ-pos units (k * q) ∙ ap pos (omega arith) in
    record { above_zero = rw below some; low = rw (left, right) (omega (arith, ints)); high = rw (left, right) (omega (arith, ints)) }

-- the line of a sure match, and of any other
pub held_by : (a : Automaton) (na : FlipRate) (b : Automaton) (nb : FlipRate) (game : Payoffs) (n : ℕ) (line : MatchLine) (tally : Option Tally)
    → AreSides a na b nb → (IsSureMatch a na b nb → ArePointsExpected a na b nb game n) → IsScored a na b nb game n line tally → HoldsExpectations a na b nb game n line
held_by a na b nb game n line None sides expected scored = record { left = scored.left.holds; right = scored.right.holds }
held_by a na b nb game n line (Some tally) sides expected scored =
    let are = expected scored.sure in
    let others : AreSides b nb a na = record { left = sides.right; left_rate = sides.right_rate; right = sides.left; right_rate = sides.left_rate } in
    let left_points_are = ap (λ (t : Tally). pos (left_points game t * score_units)) scored.plays in
    let right_points_are = ap (λ (t : Tally). pos (right_points game t * score_units)) scored.plays in
    let P : Ends → Type 0 = λ s. Holds score_units s (expected_score (player a) na (player b) nb game 0 n) in
    let Q : Ends → Type 0 = λ s. Holds score_units s (expected_score (player b) nb (player a) na game 0 n) in
    record {
      left = subst P (sym (scored.left ∙ ap point left_points_are))
          (held_point score_units (left_points game (counts (match_path a b n))) (quotient (player a) na (player b) nb ^ n) _ (some_quotient a na b nb n sides) are.left refl);
      right = subst Q (sym (scored.right ∙ ap point right_points_are))
          (held_point score_units (right_points game (counts (match_path a b n))) (quotient (player b) nb (player a) na ^ n) _ (some_quotient b nb a na n others) are.right refl);
    }
