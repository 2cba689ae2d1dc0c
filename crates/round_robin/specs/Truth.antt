-- True totals and true ranks: what the exact fractions give.
use Rattle.std.specs.Prelude.{ℕ, ◌≡◌, ◌+◌, ◌*◌, ◌==◌, ◌<◌, Bool, All, List, [], ◌∷◌, length, map, count_by, slice_index_or, pos, ◌+ℤ◌, ◌*ℤ◌, int_lt, if◌then◌else◌}
use Rattle.std.specs.List.{AllZip, range_with_len}
use Rattle.history_model.specs.Expectation.{player}
use Rattle.history_model.specs.Game.{Payoffs}
use Rattle.fixed_span.specs.Span.{Ends, Fraction, Holds, add, over, score_units}
use Rattle.result_lines.specs.declared.line.MatchLine.{MatchLine}
use Rattle.product_chain.specs.Expected.{expected_score}
use Rattle.result_lines.specs.declared.ranking.Rank.TheVariants.{At}
use Rattle.round_robin.specs.Contest.{Strategy, ArePairs, strategy_at}
use Rattle.result_lines.specs.Ranks.{rank_of}
use Rattle.result_lines.specs.Totals.{pairs_of, total_of, totals_of}
use Rattle.round_robin.specs.Totals.{AreLines}

-- ---- fractions

abbrev pub nothing : Fraction
nothing = over (pos 0) 1

-- x / y + u / v = (x * v + u * y) / (y * v)
abbrev pub plus : Fraction → Fraction → Fraction
plus a b = over (a.numerator *ℤ pos b.denominator +ℤ b.numerator *ℤ pos a.denominator) (a.denominator * b.denominator)

-- x / y < u / v where x * v < u * y
abbrev pub is_less : Fraction → Fraction → Bool
is_less a b = int_lt (a.numerator *ℤ pos b.denominator) (b.numerator *ℤ pos a.denominator)

-- the law: the sum of two spans holds the sum of what they hold
abbrev pub SumsAreHeld : Type 0
SumsAreHeld =
    (units : ℕ) (s t : Ends) (x y : Fraction) → Holds units s x → Holds units t y →
    Holds units (add s t) (plus x y)

-- ---- true totals, where `expects i j` is what entry i expects against entry j

-- what an entry expects of a match: of one with itself once, and of one of others nothing
abbrev pub own_expected : (ℕ → ℕ → Fraction) → ℕ → ℕ × ℕ → Fraction
own_expected expects i pair = if pair.0 == i then expects i pair.1 else if pair.1 == i then expects i pair.0 else nothing

-- what an entry expects of all matches
abbrev pub true_total : (ℕ → ℕ → Fraction) → List (ℕ × ℕ) → ℕ → Fraction
true_total expects [] i = nothing
true_total expects (pair ∷ pairs) i = plus (own_expected expects i pair) (true_total expects pairs i)

-- the true totals of so many entries
abbrev pub true_totals : (ℕ → ℕ → Fraction) → List (ℕ × ℕ) → ℕ → List Fraction
true_totals expects pairs count = map (true_total expects pairs) (range_with_len 0 count)

-- 1 plus the number of entries with a greater true total
abbrev pub true_rank : List Fraction → ℕ → ℕ
true_rank totals i = 1 + count_by (λ other. is_less (slice_index_or totals i nothing) other) totals

-- what one strategy expects against another in n turns
abbrev pub expects_of : List Strategy → Payoffs → ℕ → ℕ → ℕ → Fraction
expects_of strategies game n i j =
    let own = strategy_at strategies i in
    let other = strategy_at strategies j in
    expected_score (player own.automaton) own.noise (player other.automaton) other.noise game 0 n

-- ---- laws

-- both spans of a match hold what its entries expect
pub record HoldsExpected (expects : ℕ → ℕ → Fraction) (line : MatchLine) : Type 0 where
  pub left : Holds score_units line.left_score (expects line.left line.right)
  pub right : Holds score_units line.right_score (expects line.right line.left)

-- the law: totals of such matches hold the true totals
abbrev pub TotalsHoldTrueTotals : Type 0
TotalsHoldTrueTotals =
    (expects : ℕ → ℕ → Fraction) (lines : List MatchLine) (i : ℕ) → All (HoldsExpected expects) lines →
    Holds score_units (total_of i lines) (true_total expects (pairs_of lines) i)

-- the law: a rank that isn't undecided is the true rank of the fractions that the spans hold
abbrev pub RanksAreTrue : Type 0
RanksAreTrue =
    (units : ℕ) (spans : List Ends) (totals : List Fraction) (i k : ℕ) → 0 < units → i < length spans →
    AllZip (Holds units) spans totals → rank_of spans i ≡ At k → true_rank totals i ≡ k

-- the totals and ranks of a tournament are true
pub record IsTrueTournament (strategies : List Strategy) (game : Payoffs) (n : ℕ) (pairs : List (ℕ × ℕ)) (lines : List MatchLine) : Type 0 where
  pub totals : (i : ℕ) → Holds score_units (total_of i lines) (true_total (expects_of strategies game n) pairs i)
  pub ranks : (i k : ℕ) → i < length strategies → rank_of (totals_of (length strategies) lines) i ≡ At k
      → true_rank (true_totals (expects_of strategies game n) pairs (length strategies)) i ≡ k

-- the law: every tournament's are
abbrev pub TournamentsAreTrue : Type 0
TournamentsAreTrue =
    (strategies : List Strategy) (game : Payoffs) (n : ℕ) (pairs : List (ℕ × ℕ)) (lines : List MatchLine) →
    ArePairs (length strategies) pairs → AreLines strategies game n pairs lines →
    IsTrueTournament strategies game n pairs lines
