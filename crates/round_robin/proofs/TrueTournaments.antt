-- The totals and ranks of a tournament are true.
use Rattle.std.proofs.Common.{ℕ, List, length, subst, arith}
use Rattle.std.specs.List.{range_with_len}
use Rattle.std.proofs.lemmas.List.FromFn.{length-map-range_with_len}
use Rattle.fixed_span.specs.Span.{Holds, score_units}
use Rattle.round_robin.specs.Laws.{LinesHold}
use Rattle.result_lines.specs.Totals.{total_of, totals_of}
use Rattle.round_robin.specs.Truth.{RanksAreTrue, TotalsHoldTrueTotals, TournamentsAreTrue, expects_of, true_total, true_totals}
use Rattle.round_robin.proofs.TrueRanks.{held_places}
use Rattle.round_robin.proofs.TrueTotals.{lines_expected}

pub tournaments_are : LinesHold → TotalsHoldTrueTotals → RanksAreTrue → TournamentsAreTrue
tournaments_are lines_hold totals_hold ranks_are strategies game n pairs lines are made =
    let expects = expects_of strategies game n in
    let count = length strategies in
    let expected = lines_expected lines_hold strategies game n pairs lines made in
    let P : ℕ → List (ℕ × ℕ) → Type 0 = λ i ps. Holds score_units (total_of i lines) (true_total expects ps i) in
    let held : (i : ℕ) → P i pairs = λ i. subst (P i) made.places (totals_hold expects lines i expected) in
    record {
      totals = held;
      ranks = λ i k inside ranked.
          ranks_are score_units (totals_of count lines) (true_totals expects pairs count) i k (omega arith)
          (omega (arith, inside, length-map-range_with_len (λ j. total_of j lines) 0 count))
          (held_places score_units (λ j. total_of j lines) (true_total expects pairs) held (range_with_len 0 count)) ranked;
    }
