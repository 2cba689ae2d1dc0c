-- What the chance of fixation is computed from, and what an answer says.
use Rattle.std.specs.Prelude.{◌<◌, ◌≡◌, ℕ, ◌-◌, ◌*◌, ◌^◌, ℤ, pos, ◌+ℤ◌, ◌*ℤ◌, ◌≤ℤ◌}
use Rattle.fixed_span.specs.Span.{Ends, Fraction, Holds, IsWithin, chance_units, score_units}
use Rattle.scaled_span.specs.Ratios.{Ratio, AtMost, whole}
use Rattle.moran_chain.specs.declared.fixing.MoranVerdict.{MoranVerdict}
use Rattle.moran_chain.specs.declared.fixing.MoranVerdict.TheVariants.{Favoured, Opposed, Neutral, Undecided}
use Rattle.moran_chain.specs.Fitness.{Scores, first_fitness, second_fitness, each_turn}
use Rattle.moran_chain.specs.Moran.{plus, fix, won, lost, fraction_of, AreFit, IsSolution}

-- (wd - wn) * units + wn * x
abbrev pub worth_of : ℕ → ℕ → ℕ → ℤ → ℤ
worth_of wn wd units x = pos ((wd - wn) * units) +ℤ pos wn *ℤ x

-- the span of a score over so many turns from which fitness can be computed: it is narrow, and a meeting adds at least 1 / wd to
-- fitness
pub record GivesFitness (turns wn wd : ℕ) (span : Ends) : Type 0 where
  pub high : span.hi ≤ℤ pos (turns * 10 ^ 18)
  pub narrow : IsWithin turns span
  pub enough : pos (turns * score_units) ≤ℤ worth_of wn wd (turns * score_units) span.lo

-- each span is one number
pub record ArePoints (a b c d : Ends) : Type 0 where
  pub first : a.lo ≡ a.hi
  pub second : b.lo ≡ b.hi
  pub third : c.lo ≡ c.hi
  pub fourth : d.lo ≡ d.hi

-- a span of chances
abbrev pub chances : ℕ → ℕ → Ends
chances lo hi = record { lo = pos lo; hi = pos hi }

-- n / 10^9
abbrev pub billionths : ℕ → Ratio
billionths n = record { num = n; den = chance_units }

-- lo and hi billionths hold the chance of fixation from i, and bound what the first type has won and lost after any number of steps;
-- they hold each solution
pub record HoldsFixation (lo hi : ℕ) (f g : ℕ → ℕ) (m i : ℕ) : Type 0 where
  pub fit : AreFit f g m
  pub chance : Holds chance_units (chances lo hi) (fraction_of (fix f g m i))
  pub won_most : (t : ℕ) → AtMost (won f g m t i) (billionths hi)
  pub lost_most : (t : ℕ) → AtMost (plus (lost f g m t i) (billionths lo)) (whole 1)
  pub solutions : (x : ℕ → Fraction) → IsSolution f g m x → Holds chance_units (chances lo hi) (x i)

-- the same, with the fitness from scores over so many turns
abbrev pub HoldsFixationOf : ℕ → ℕ → ℕ → ℕ → ℕ → ℕ → ℕ → Scores → Type 0
HoldsFixationOf lo hi turns wn wd m i s = HoldsFixation lo hi (first_fitness wn wd (each_turn turns s) m) (second_fitness wn wd (each_turn turns s) m) m i

-- the chance of fixation from i of m individuals, with the fitness from scores over so many turns
abbrev pub fixation_chance : ℕ → ℕ → ℕ → ℕ → ℕ → Scores → Ratio
fixation_chance turns wn wd m i s = fix (first_fitness wn wd (each_turn turns s) m) (second_fitness wn wd (each_turn turns s) m) m i

-- what a verdict says of a chance of fixation, against i / m
abbrev pub IsTrueVerdict : MoranVerdict → Ratio → ℕ → ℕ → Type 0
IsTrueVerdict Favoured x m i = i * x.den < x.num * m
IsTrueVerdict Opposed x m i = x.num * m < i * x.den
IsTrueVerdict Neutral x m i = x.num * m ≡ i * x.den
IsTrueVerdict Undecided x m i = Unit {0}
