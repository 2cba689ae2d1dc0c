-- The scores of a line are in range.
use Rattle.std.proofs.Common.{◌≡◌, ℕ, zero, suc, ◌+◌, ◌*◌, ◌^◌, ◌≤◌, ◌<◌, length, Option, Some, None, IfSome, ℤ, pos, negsuc, ◌*ℤ◌, ◌≤ℤ◌, refl, sym, ◌∙◌, ap, subst, arith}
use Rattle.std.proofs.lemmas.Int.{ints}
use Rattle.std.proofs.Math.IntN.{pos-*ℤ-pos, negsuc-*ℤ-pos}
use Rattle.std.proofs.Math.Nat.{one-le-pow, mul-pos, mul-le-mul_right, le_of_mul-le-mul_right}
use Rattle.history_model.specs.declared.tally.Tally.{Tally}
use Rattle.history_model.specs.Automaton.{Automaton, next_row}
use Rattle.history_model.specs.Expectation.{player, quotient, AutomataAreWeighed, OffsetLowers, HistoriesAgreeWithRows}
use Rattle.history_model.specs.Game.{Payoffs, IsGame, most}
use Rattle.history_model.specs.History.{turned_play}
use Rattle.history_model.specs.Noise.{FlipRate}
use Rattle.history_model.specs.Path.{sure_play, path, match_path}
use Rattle.history_model.specs.Tally.{total, left_points, right_points, CountsArePaid}
use Rattle.fixed_span.specs.Span.{Ends, point, score_units}
use Rattle.result_lines.specs.declared.line.MatchLine.{MatchLine}
use Rattle.product_chain.specs.Expected.{expected_score, IsPayable}
use Rattle.result_lines.specs.Totals.{IsScoreSpan}
use Rattle.round_robin.specs.Laws.{AreSides, IsInRange, LinesHold}
use Rattle.round_robin.specs.Line.{IsExpected, IsScored}
use Rattle.round_robin.proofs.Paying.{held_by, points_expected}

-- ends above 0 that hold a fraction are in order
in_order : (units d : ℕ) (lo hi numerator : ℤ) → 0 < d → pos 0 ≤ℤ lo
    → (lo *ℤ pos d) ≤ℤ (pos units *ℤ numerator) → (pos units *ℤ numerator) ≤ℤ (hi *ℤ pos d) → lo ≤ℤ hi
in_order units d (negsuc m) hi numerator some low below above = absurd (omega (arith, ints, low))
in_order units d (pos m) (negsuc k) numerator some low below above =
    let more : 0 < suc k * d = mul-pos (omega arith) some in
    absurd (omega (arith, ints, below, above, pos-*ℤ-pos m d, negsuc-*ℤ-pos k d, more))
in_order units d (pos m) (pos k) numerator some low below above =
    let products : m * d ≤ k * d = omega (arith, ints, below, above, pos-*ℤ-pos m d, pos-*ℤ-pos k d) in
    omega (arith, ints, le_of_mul-le-mul_right products some)

most_few : (game : Payoffs) → IsGame game → most game ≤ 1000000
most_few game is = omega (arith, is.reward, is.sucker, is.temptation, is.punishment)

-- what n turns pay at most
few_units : (n k : ℕ) → n ≤ 10 ^ 12 → k ≤ 1000000 → n * k * score_units ≤ 10 ^ 30
few_units n k turns pays =
    let first : n * k ≤ 10 ^ 12 * k = mul-le-mul_right k turns in
    let second : 10 ^ 12 * k ≤ 10 ^ 18 = omega (arith, pays) in
    omega (arith, first, second)

pub payable_range : (game : Payoffs) (n : ℕ) (span : Ends) → IsGame game → n ≤ 10 ^ 12 → span.lo ≤ℤ span.hi → IsPayable game n span → IsScoreSpan span
payable_range game n span is turns ordered payable = record {
  low = omega (arith, ints, payable.low);
  ordered = ordered;
  high = omega (arith, ints, payable.high, few_units n (most game) turns (most_few game is));
}

expected_range : (a : Automaton) (na : FlipRate) (b : Automaton) (nb : FlipRate) (game : Payoffs) (n : ℕ) (span : Ends)
    → AreSides a na b nb → IsGame game → n ≤ 10 ^ 12 → IsExpected a na b nb game n span → IsScoreSpan span
expected_range a na b nb game n span sides is turns e =
    let some : 0 < quotient (player a) na (player b) nb ^ n =
    one-le-pow n (quotient (player a) na (player b) nb)
    (mul-pos (mul-pos (omega (arith, sides.left.some)) (omega (arith, sides.left_rate.some))) (mul-pos (omega (arith, sides.right.some)) (omega (arith, sides.right_rate.some)))) in
    let low : pos 0 ≤ℤ span.lo = omega (arith, ints, e.payable.low) in
    payable_range game n span is turns
    (in_order score_units _ span.lo span.hi (expected_score (player a) na (player b) nb game 0 n).numerator some low e.holds.low e.holds.high) e.payable

-- a point is its own two ends
point_range : (n k : ℕ) (span : Ends) → n ≤ 10 ^ 12 → k ≤ 1000000 * n → span ≡ point (pos (k * score_units)) → IsScoreSpan span
point_range n k span turns few is =
    let high : k * score_units ≤ 10 ^ 30 = omega (arith, few, turns) in
    let P : Ends → Type 0 = λ s. IsScoreSpan s in
    subst P (sym is) (record { low = omega (arith, ints); ordered = omega (arith, ints); high = omega (arith, ints, high) })

paid_few : (r s t p : ℕ) (tally : Tally) → r ≤ 1000000 → s ≤ 1000000 → t ≤ 1000000 → p ≤ 1000000
    → r * tally.cc + s * tally.cd + t * tally.dc + p * tally.dd ≤ 1000000 * total tally
paid_few r s t p tally r_few s_few t_few p_few =
    omega (arith, mul-le-mul_right tally.cc r_few, mul-le-mul_right tally.cd s_few, mul-le-mul_right tally.dc t_few, mul-le-mul_right tally.dd p_few)

length_path : (a : Automaton) (u : ℕ) (b : Automaton) (v n : ℕ) → length (path a u b v n) ≡ n
length_path a u b v zero = refl
length_path a u b v (suc n) =
    let play = sure_play a u b v in omega (arith, length_path a (next_row a u play) b (next_row b v (turned_play play)) n)

range_by : CountsArePaid → (a : Automaton) (na : FlipRate) (b : Automaton) (nb : FlipRate) (game : Payoffs) (n : ℕ) (line : MatchLine) (tally : Option Tally)
    → AreSides a na b nb → IsGame game → n ≤ 10 ^ 12 → tally ≡ line.tally → IsScored a na b nb game n line tally → IsInRange n line
range_by paid a na b nb game n line None sides is turns same scored =
    let others : AreSides b nb a na = record { left = sides.right; left_rate = sides.right_rate; right = sides.left; right_rate = sides.left_rate } in
    record {
      left = expected_range a na b nb game n line.left_score sides is turns scored.left;
      right = expected_range b nb a na game n line.right_score others is turns scored.right;
      counted = let P : Option Tally → Type 0 = λ t. IfSome t (λ x. total x ≡ n) in subst P same tt;
    }
range_by paid a na b nb game n line (Some tally) sides is turns same scored =
    let whole : total tally ≡ n = ap total scored.plays ∙ (paid game (match_path a b n)).turns ∙ length_path a a.start b b.start n in
    record {
      left = point_range n (left_points game tally) line.left_score turns
          (omega (arith, whole, paid_few game.r game.s game.t game.p tally is.reward is.sucker is.temptation is.punishment)) scored.left;
      right = point_range n (right_points game tally) line.right_score turns
          (omega (arith, whole, paid_few game.r game.t game.s game.p tally is.reward is.temptation is.sucker is.punishment)) scored.right;
      counted = let P : Option Tally → Type 0 = λ t. IfSome t (λ x. total x ≡ n) in subst P same whole;
    }

pub lines_hold : AutomataAreWeighed → OffsetLowers → HistoriesAgreeWithRows → CountsArePaid → LinesHold
lines_hold weighed lowers agree paid = record {
  sure = points_expected weighed lowers agree paid;
  line = λ a na b nb game n line sides is.
      held_by a na b nb game n line line.tally sides (λ sure. points_expected weighed lowers agree paid a na b nb game n sides sure) is;
  range = λ a na b nb game n line sides game_is turns is. range_by paid a na b nb game n line line.tally sides game_is turns refl is;
}
