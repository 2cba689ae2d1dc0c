-- What a player expects to score.
use Rattle.std.specs.Prelude.{ℕ, ◌+◌, ◌*◌, ◌/◌, ◌^◌, ◌≤◌, ◌≡◌, max, pos, ◌+ℤ◌, ◌*ℤ◌, ◌≤ℤ◌, ◌<ℤ◌}
use Rattle.history_model.specs.Automaton.{Automaton, IsSure}
use Rattle.history_model.specs.Game.{Payoffs, least, most}
use Rattle.history_model.specs.Noise.{FlipRate}
use Rattle.history_model.specs.Expectation.{Chooser, quotient, expectation}
use Rattle.fixed_span.specs.Span.{Ends, Fraction, IsWithin, score_units}

-- the expected score of a against b in n turns, where each payoff is less by the offset
abbrev pub expected_score : Chooser → FlipRate → Chooser → FlipRate → Payoffs → ℕ → ℕ → Fraction
expected_score a na b nb game offset n =
    record { numerator = expectation a na b nb game offset n; denominator = quotient a na b nb ^ n }

-- neither automaton draws lots, and no move is flipped
pub record IsSureMatch (a : Automaton) (na : FlipRate) (b : Automaton) (nb : FlipRate) : Type 0 where
  pub left : IsSure a
  pub left_still : na.n ≡ 0
  pub right : IsSure b
  pub right_still : nb.n ≡ 0

-- the ends lie between what the least and what the greatest payoff give in n turns
pub record IsPayable (game : Payoffs) (n : ℕ) (span : Ends) : Type 0 where
  pub low : pos (n * least game * score_units) ≤ℤ span.lo
  pub high : span.hi ≤ℤ pos (n * most game * score_units)

-- the parts of a point in which the chain counts: n times the greatest payoff is at most 2^86 of them
abbrev pub finest : Payoffs → ℕ → ℕ
finest game n = 2 ^ 86 / (n * max 1 (most game))

-- the chain counts up to 4 of its parts a turn too little: where these come to at most m units, the span is at most m + 1 wide
abbrev pub IsTight : Payoffs → ℕ → Ends → Type 0
IsTight game n span = (m : ℕ) → 4 * n * score_units ≤ m * finest game n → IsWithin (m + 1) span

-- the fraction is less than one unit from either end
pub record IsSharp (units : ℕ) (span : Ends) (x : Fraction) : Type 0 where
  pub low : (pos units *ℤ x.numerator) <ℤ ((span.lo *ℤ pos x.denominator) +ℤ pos x.denominator)
  pub high : (span.hi *ℤ pos x.denominator) <ℤ ((pos units *ℤ x.numerator) +ℤ pos x.denominator)
