-- Fitness from the scores of matches (Nowak, Evolutionary Dynamics, 2006).
use Rattle.std.specs.Prelude.{ℕ, ◌+◌, ◌-◌, ◌*◌, pos, ◌+ℤ◌, ◌*ℤ◌}
use Rattle.fixed_span.specs.Span.{Ends, Fraction, Holds, over, score_units}
use Rattle.scaled_span.specs.Ratios.{Ratio, above_zero}

-- a: of the first type against the first; b: of the first against the second; c: of the second against the first; d: of the second
-- against the second
pub record Scores : Type 0 where
  pub a : Fraction
  pub b : Fraction
  pub c : Fraction
  pub d : Fraction

-- each span holds its score
pub record AreHeld (a b c d : Ends) (s : Scores) : Type 0 where
  pub of_a : Holds score_units a s.a
  pub of_b : Holds score_units b s.b
  pub of_c : Holds score_units c s.c
  pub of_d : Holds score_units d s.d

-- a score over so many turns, for each turn
abbrev pub per_turn : ℕ → Fraction → Fraction
per_turn turns x = over x.numerator (turns * x.denominator)

abbrev pub each_turn : ℕ → Scores → Scores
each_turn turns s = record { a = per_turn turns s.a; b = per_turn turns s.b; c = per_turn turns s.c; d = per_turn turns s.d }

-- the mean of j times x and k times y
abbrev pub mean_of : ℕ → Fraction → ℕ → Fraction → Fraction
mean_of j x k y =
    over (pos (j * y.denominator) *ℤ x.numerator +ℤ pos (k * x.denominator) *ℤ y.numerator) ((j + k) * (x.denominator * y.denominator))

-- what an individual is paid on the average for meeting each of the m - 1 others, where i of the m are of the first type
abbrev pub first_payoff : Scores → ℕ → ℕ → Fraction
first_payoff p m i = mean_of (i - 1) p.a (m - i) p.b

abbrev pub second_payoff : Scores → ℕ → ℕ → Fraction
second_payoff p m i = mean_of i p.c (m - i - 1) p.d

-- 1 - w + w * x, or 0 where that is less, with w = wn / wd
abbrev pub fitness : ℕ → ℕ → Fraction → Ratio
fitness wn wd x = record { num = above_zero (pos ((wd - wn) * x.denominator) +ℤ pos wn *ℤ x.numerator); den = wd * x.denominator }

-- the fitness of both types, in one unit
abbrev pub first_fitness : ℕ → ℕ → Scores → ℕ → ℕ → ℕ
first_fitness wn wd p m i = (fitness wn wd (first_payoff p m i)).num * (fitness wn wd (second_payoff p m i)).den

abbrev pub second_fitness : ℕ → ℕ → Scores → ℕ → ℕ → ℕ
second_fitness wn wd p m i = (fitness wn wd (second_payoff p m i)).num * (fitness wn wd (first_payoff p m i)).den
