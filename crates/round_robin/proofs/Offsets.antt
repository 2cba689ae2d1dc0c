-- Lines that are lowered by an offset.
use Rattle.std.proofs.Common.{◌≡◌, ℕ, ◌+◌, ◌*◌, ◌^◌, ◌≤◌, List, [], ◌∷◌, length, map, get_or, Option, Some, None, ℤ, pos, neg_ℤ, ◌-ℤ◌, ◌*ℤ◌, refl, sym, ◌∙◌, ap, subst, arith}
use Rattle.std.specs.List.{All, range_with_len}
use Rattle.std.proofs.lemmas.Int.{ints}
use Rattle.std.proofs.lemmas.List.Elements.{All-map}
use Rattle.std.proofs.lemmas.List.FromFn.{length-map-range_with_len}
use Rattle.history_model.specs.Automaton.{Automaton}
use Rattle.history_model.specs.Expectation.{player, quotient, expectation, expected_points, AutomataAreWeighed, OffsetLowers}
use Rattle.history_model.specs.Game.{Payoffs, IsGame, least, most}
use Rattle.history_model.specs.History.{History, points, score}
use Rattle.history_model.specs.Noise.{FlipRate}
use Rattle.history_model.specs.Tally.{left_points, right_points}
use Rattle.history_model.specs.declared.tally.Tally.{Tally}
use Rattle.fixed_span.specs.Span.{Ends, Holds, over, point, score_units}
use Rattle.fixed_span.specs.Lowered as spans
use Rattle.fixed_span.proofs.Signed.{*ℤ-+ℤ, +ℤ-*ℤ}
use Rattle.fixed_span.proofs.Lowering.{neg_times, times_neg}
use Rattle.product_chain.specs.Expected.{expected_score, IsSharp}
use Rattle.result_lines.specs.declared.line.MatchLine.{MatchLine}
use Rattle.result_lines.specs.declared.tables.Totals.{Totals}
use Rattle.result_lines.specs.Lowered.{CanBeLowered, TotalsAreLowered, lowered}
use Rattle.result_lines.specs.Totals.{entries_of, entry_of, total_of, totals_of}
use Rattle.round_robin.specs.Contest.{Strategy, ArePairs, strategy_at}
use Rattle.round_robin.specs.Laws.{AreSides, LinesHold}
use Rattle.round_robin.specs.Line.{IsExpected, IsScored, IsLineOf}
use Rattle.round_robin.specs.Lowering.{AreLoweredLines, IsLoweredLineBetween, IsExpectedLess, IsScoredLess, HoldsLess, LinesAreLowered, LoweredTournamentsAreTrue, TournamentsAreLowered, expects_less}
use Rattle.sheet_rules.specs.RightLine.{units_paid}
use Rattle.round_robin.specs.Totals.{AreLines}
use Rattle.round_robin.specs.Truth.{HoldsExpected, RanksAreTrue, TotalsHoldTrueTotals, true_total, true_totals}
use Rattle.round_robin.proofs.Counting.{lines_few}
use Rattle.round_robin.proofs.TrueRanks.{held_places}

-- what a history pays where each payoff is less by an offset
paid_less : (game : Payoffs) (offset : ℕ) (history : History) → score game offset history ≡ pos (points game history) -ℤ pos (offset * length history)
paid_less game offset [] = omega (arith, ints)
paid_less game offset (play ∷ rest) = let later = paid_less game offset rest in omega (arith, ints, later)

-- what is expected there
expected_less : AutomataAreWeighed → OffsetLowers → (a : Automaton) (na : FlipRate) (b : Automaton) (nb : FlipRate) (game : Payoffs) (offset n : ℕ) → AreSides a na b nb
    → expectation (player a) na (player b) nb game offset n
    ≡ expectation (player a) na (player b) nb game 0 n -ℤ pos (offset * n * quotient (player a) na (player b) nb ^ n)
expected_less weighed lowers a na b nb game offset n sides =
    let left = weighed a a.start sides.left sides.left.started in
    let right = weighed b b.start sides.right sides.right.started in
    let q = quotient (player a) na (player b) nb in
    let whole = expected_points (player a) na (player b) nb game n in
    let none : 0 * n * q ^ n ≡ 0 = omega arith in
    let all : pos whole -ℤ pos 0 ≡ pos whole = omega (arith, ints) in
    let less : ℤ = pos (offset * n * q ^ n) in
    lowers (player a) na (player b) nb game offset n left sides.left_rate right sides.right_rate
    ∙ ap (λ x. x -ℤ less)
    (sym (lowers (player a) na (player b) nb game 0 n left sides.left_rate right sides.right_rate ∙ ap (λ x. pos whole -ℤ pos x) none ∙ all))

-- a span that is lowered by whole points is as sharp
sharp_less : (units points : ℕ) (span : Ends) (x : ℤ) (d : ℕ) → IsSharp units span (over x d)
    → IsSharp units (spans.lowered (points * units) span) (over (x -ℤ pos (points * d)) d)
sharp_less units points span x d h =
    let less = neg_ℤ (pos (points * units)) in
    let below = neg_ℤ (pos (points * d)) in
    let product : points * units * d ≡ units * (points * d) = omega arith in
    let same : less *ℤ pos d ≡ pos units *ℤ below = neg_times (points * units) d ∙ ap (λ n. neg_ℤ (pos n)) product ∙ sym (times_neg units (points * d)) in
    let right = *ℤ-+ℤ (pos units) x below in
    record {
      low = omega (arith, ints, h.low, right, same, +ℤ-*ℤ span.lo less (pos d));
      high = omega (arith, ints, h.high, right, same, +ℤ-*ℤ span.hi less (pos d));
    }

-- whole points as units, less those of the offset
units_are : (offset n points : ℕ) → pos (points * score_units) -ℤ pos (offset * n * score_units) ≡ units_paid offset n points
units_are offset n points = refl

-- what a side expects, lowered
span_less : spans.SpansAreLowered → (a : Automaton) (na : FlipRate) (b : Automaton) (nb : FlipRate) (game : Payoffs) (offset n : ℕ) (span : Ends)
    → expectation (player a) na (player b) nb game offset n
    ≡ expectation (player a) na (player b) nb game 0 n -ℤ pos (offset * n * quotient (player a) na (player b) nb ^ n)
    → IsExpected a na b nb game n span → IsExpectedLess a na b nb game offset n (spans.lowered (offset * n * score_units) span)
span_less law a na b nb game offset n span less e =
    let d : ℕ = quotient (player a) na (player b) nb ^ n in
    let low = spans.lowered (offset * n * score_units) span in
    let P : ℤ → Type 0 = λ x. Holds score_units low (over x d) in
    let Q : ℤ → Type 0 = λ x. IsSharp score_units low (over x d) in
    let whole = expectation (player a) na (player b) nb game 0 n in
    record {
      holds = subst P (sym less) (law.held score_units (offset * n) span whole d e.holds);
      width = (law.widths (offset * n * score_units) n span).1 e.width;
      narrow = λ m enough. (law.widths (offset * n * score_units) (m + 1) span).1 (e.narrow m enough);
      payable = record {
        low = omega (arith, ints, e.payable.low, units_are offset n (n * least game));
        high = omega (arith, ints, e.payable.high, units_are offset n (n * most game));
      };
      one_turn = λ one. subst Q (sym less) (sharp_less score_units (offset * n) span whole d (e.one_turn one));
    }

hold_less : spans.SpansAreLowered → (a : Automaton) (na : FlipRate) (b : Automaton) (nb : FlipRate) (game : Payoffs) (offset n turns : ℕ) (span : Ends) → turns ≡ n
    → expectation (player a) na (player b) nb game offset n
    ≡ expectation (player a) na (player b) nb game 0 n -ℤ pos (offset * n * quotient (player a) na (player b) nb ^ n)
    → Holds score_units span (expected_score (player a) na (player b) nb game 0 n)
    → Holds score_units (spans.lowered (offset * turns * score_units) span) (expected_score (player a) na (player b) nb game offset n)
hold_less law a na b nb game offset n turns span same less h =
    let d : ℕ = quotient (player a) na (player b) nb ^ n in
    let P : ℤ → Type 0 = λ x. Holds score_units (spans.lowered (offset * n * score_units) span) (over x d) in
    let Q : ℕ → Type 0 = λ t. Holds score_units (spans.lowered (offset * t * score_units) span) (expected_score (player a) na (player b) nb game offset n) in
    subst Q (sym same) (subst P (sym less) (law.held score_units (offset * n) span (expectation (player a) na (player b) nb game 0 n) d h))

-- a point, lowered
point_less : (offset n turns points : ℕ) (span : Ends) → turns ≡ n → span ≡ point (pos (points * score_units))
    → spans.lowered (offset * turns * score_units) span ≡ point (units_paid offset n points)
point_less offset n turns points span same is =
    ap (λ t. spans.lowered (offset * t * score_units) span) same
    ∙ ap (λ s. spans.lowered (offset * n * score_units) s) is
    ∙ ap point (units_are offset n points)

module _ (law : spans.SpansAreLowered) (weighed : AutomataAreWeighed) (lowers : OffsetLowers) (hold : LinesHold) (a : Automaton) (na : FlipRate) (b : Automaton) (nb : FlipRate) (game : Payoffs) (offset n : ℕ)
    (line : MatchLine) (sides : AreSides a na b nb) (same : line.turns ≡ n) where
  others : AreSides b nb a na
  others = record { left = sides.right; left_rate = sides.right_rate; right = sides.left; right_rate = sides.left_rate }

  left_less : expectation (player a) na (player b) nb game offset n
      ≡ expectation (player a) na (player b) nb game 0 n -ℤ pos (offset * n * quotient (player a) na (player b) nb ^ n)
  left_less = expected_less weighed lowers a na b nb game offset n sides

  right_less : expectation (player b) nb (player a) na game offset n
      ≡ expectation (player b) nb (player a) na game 0 n -ℤ pos (offset * n * quotient (player b) nb (player a) na ^ n)
  right_less = expected_less weighed lowers b nb a na game offset n others

  line_less : (tally : Option Tally) → IsScored a na b nb game n line tally → IsScoredLess a na b nb game offset n (lowered offset line) tally
  line_less None scored =
      let P : ℕ → Type 0 = λ t. IsExpectedLess a na b nb game offset n (spans.lowered (offset * t * score_units) line.left_score) in
      let Q : ℕ → Type 0 = λ t. IsExpectedLess b nb a na game offset n (spans.lowered (offset * t * score_units) line.right_score) in
      record {
        unsure = scored.unsure;
        left = subst P (sym same) (span_less law a na b nb game offset n line.left_score left_less scored.left);
        right = subst Q (sym same) (span_less law b nb a na game offset n line.right_score right_less scored.right);
      }
  line_less (Some tally) scored = record {
    sure = scored.sure;
    plays = scored.plays;
    left = point_less offset n line.turns (left_points game tally) line.left_score same scored.left;
    right = point_less offset n line.turns (right_points game tally) line.right_score same scored.right;
  }

  both_less : IsLineOf a na b nb game n line → HoldsLess a na b nb game offset n (lowered offset line)
  both_less is =
      let held = hold.line a na b nb game n line sides is in
      record {
        left = hold_less law a na b nb game offset n line.turns line.left_score same left_less held.left;
        right = hold_less law b nb a na game offset n line.turns line.right_score same right_less held.right;
      }

pub lines_are_lowered_lem : spans.SpansAreLowered → AutomataAreWeighed → OffsetLowers → LinesHold → LinesAreLowered
lines_are_lowered_lem law weighed lowers hold = record {
  paid = paid_less;
  expected = expected_less weighed lowers;
  line = λ a na b nb game offset n line sides same is. line_less law weighed lowers hold a na b nb game offset n line sides same line.tally is;
  holds = λ a na b nb game offset n line sides same is. both_less law weighed lowers hold a na b nb game offset n line sides same is;
  wide = λ offset line.
      let units : ℕ = offset * line.turns * score_units in
      record {
        left = λ width. ((law.widths units width line.left_score).1, (law.widths units width line.left_score).0);
        right = λ width. ((law.widths units width line.right_score).1, (law.widths units width line.right_score).0);
      };
}

-- ---- tournaments

expected_lines : LinesAreLowered → (strategies : List Strategy) (game : Payoffs) (offset n : ℕ) (pairs : List (ℕ × ℕ)) (lines : List MatchLine)
    → AreLines strategies game n pairs lines → All (HoldsExpected (expects_less strategies game offset n)) (map (lowered offset) lines)
expected_lines law strategies game offset n pairs lines made =
    let expects = expects_less strategies game offset n in
    All-map (HoldsExpected expects) (lowered offset) lines
    (λ k d inside.
    let line = get_or lines k d in
    let a = strategy_at strategies line.left in
    let b = strategy_at strategies line.right in
    let here = made.each k d inside in
    let held = law.holds a.automaton a.noise b.automaton b.noise game offset n line here.sides here.turns here.is in
    let holds : HoldsExpected expects (lowered offset line) = record { left = held.left; right = held.right } in
    holds)

pub lowered_tournaments_are : LinesAreLowered → TotalsAreLowered → TotalsHoldTrueTotals → RanksAreTrue → LoweredTournamentsAreTrue
lowered_tournaments_are law kept totals_hold ranks_are strategies game offset n pairs lines are made =
    let expects = expects_less strategies game offset n in
    let count = length strategies in
    let low = map (lowered offset) lines in
    let expected = expected_lines law strategies game offset n pairs lines made in
    let P : ℕ → List (ℕ × ℕ) → Type 0 = λ i ps. Holds score_units (total_of i low) (true_total expects ps i) in
    let held : (i : ℕ) → P i pairs = λ i. subst (P i) (kept.places offset lines ∙ made.places) (totals_hold expects low i expected) in
    record {
      totals = held;
      ranks = λ i k inside ranked.
          ranks_are score_units (totals_of count low) (true_totals expects pairs count) i k (omega arith)
          (omega (arith, inside, length-map-range_with_len (λ j. total_of j low) 0 count))
          (held_places score_units (λ j. total_of j low) (true_total expects pairs) held (range_with_len 0 count)) ranked;
    }

can_be_lowered : LinesHold → (strategies : List Strategy) (game : Payoffs) (n : ℕ) (pairs : List (ℕ × ℕ)) (results : Totals)
    → length strategies ≤ 64 → IsGame game → n ≤ 10 ^ 12 → ArePairs (length strategies) pairs → AreLines strategies game n pairs results.matches
    → results.entries ≡ entries_of (length strategies) results.matches → CanBeLowered results
can_be_lowered hold strategies game n pairs results few is turns are made entries = record {
  few = lines_few (length strategies) pairs results.matches few are made.places;
  few_entries = omega (arith, few, ap length entries, length-map-range_with_len (entry_of (length strategies) results.matches) 0 (length strategies));
  raised = λ k d inside.
      let line = get_or results.matches k d in
      let a = strategy_at strategies line.left in
      let b = strategy_at strategies line.right in
      let here = made.each k d inside in
      let range = hold.range a.automaton a.noise b.automaton b.noise game n line here.sides is turns here.is in
      record { scores = record { left = range.left; right = range.right }; turns = omega (arith, turns, here.turns) };
}

lines_lowered : LinesAreLowered → TotalsAreLowered → (strategies : List Strategy) (game : Payoffs) (offset n : ℕ) (pairs : List (ℕ × ℕ)) (lines : List MatchLine)
    → AreLines strategies game n pairs lines → AreLoweredLines strategies game offset n pairs (map (lowered offset) lines)
lines_lowered law kept strategies game offset n pairs lines made = record {
  places = kept.places offset lines ∙ made.places;
  each = All-map (IsLoweredLineBetween strategies game offset n) (lowered offset) lines
      (λ k d inside.
      let line = get_or lines k d in
      let a = strategy_at strategies line.left in
      let b = strategy_at strategies line.right in
      let here = made.each k d inside in
      let lower : IsLoweredLineBetween strategies game offset n (lowered offset line) = record {
        sides = here.sides;
        turns = here.turns;
        is = law.line a.automaton a.noise b.automaton b.noise game offset n line here.sides here.turns here.is;
      } in
      lower);
}

pub tournaments_are_lowered_lem : LinesHold → LinesAreLowered → TotalsAreLowered → TournamentsAreLowered
tournaments_are_lowered_lem hold law kept = record {
  can_be = can_be_lowered hold;
  lines = lines_lowered law kept;
  hold = λ strategies game offset n pairs lines made. expected_lines law strategies game offset n pairs lines made;
}
