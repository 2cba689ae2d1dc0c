-- The Moran process of two types (Nowak, Evolutionary Dynamics, 2006). Of m individuals i are of the first type. In a step one individual
-- is chosen by fitness and has a child, and one, chosen evenly, dies. f i and g i are the fitness of an individual of the first and of
-- the second type, in one unit.
use Rattle.std.specs.Prelude.{◌≡◌, ℕ, zero, suc, ◌+◌, ◌-◌, ◌*◌, ◌<◌, ◌≤◌, ◌==◌, pos, ◌+ℤ◌, ◌*ℤ◌, if◌then◌else◌}
use Rattle.fixed_span.specs.Span.{Fraction}
use Rattle.scaled_span.specs.Ratios.{Ratio, AtMost, whole, times, over}

-- x + y
abbrev pub plus : Ratio → Ratio → Ratio
plus x y = record { num = x.num * y.den + y.num * x.den; den = x.den * y.den }

-- g j / f j
abbrev pub odds : (ℕ → ℕ) → (ℕ → ℕ) → ℕ → Ratio
odds f g j = record { num = g j; den = f j }

-- the product over j = 1 to k of g j / f j
abbrev pub product_to : (ℕ → ℕ) → (ℕ → ℕ) → ℕ → Ratio
product_to f g zero = whole 1
product_to f g (suc k) = times (product_to f g k) (odds f g (suc k))

-- S(i): the sum over k = 0 to i - 1 of those products
abbrev pub sum_to : (ℕ → ℕ) → (ℕ → ℕ) → ℕ → Ratio
sum_to f g zero = whole 0
sum_to f g (suc i) = plus (sum_to f g i) (product_to f g i)

-- the chance that i of m individuals take over: S(i) / S(m)
abbrev pub fix : (ℕ → ℕ) → (ℕ → ℕ) → ℕ → ℕ → Ratio
fix f g m i = over (sum_to f g i) (sum_to f g m)

-- ---- a step

-- fitness is above 0 where both types are there
pub record AreFit (f g : ℕ → ℕ) (m : ℕ) : Type 0 where
  pub first : (i : ℕ) → 0 < i → i < m → 0 < f i
  pub second : (i : ℕ) → 0 < i → i < m → 0 < g i

-- the fitness of all, m times
abbrev pub all_ways : (ℕ → ℕ) → (ℕ → ℕ) → ℕ → ℕ → ℕ
all_ways f g m i = (i * f i + (m - i) * g i) * m

-- the chance that one of the first type has the child and one of the second dies
abbrev pub step_up : (ℕ → ℕ) → (ℕ → ℕ) → ℕ → ℕ → Ratio
step_up f g m i = record { num = i * f i * (m - i); den = all_ways f g m i }

-- the chance that one of the second type has the child and one of the first dies
abbrev pub step_down : (ℕ → ℕ) → (ℕ → ℕ) → ℕ → ℕ → Ratio
step_down f g m i = record { num = (m - i) * g i * i; den = all_ways f g m i }

-- the chance that the child is of the type of the one that dies
abbrev pub step_stay : (ℕ → ℕ) → (ℕ → ℕ) → ℕ → ℕ → Ratio
step_stay f g m i = record { num = i * f i * i + (m - i) * g i * (m - i); den = all_ways f g m i }

-- what x is on the average after one step from i
abbrev pub after_step : (ℕ → ℕ) → (ℕ → ℕ) → ℕ → (ℕ → Ratio) → ℕ → Ratio
after_step f g m x i =
    plus (plus (times (step_up f g m i) (x (i + 1))) (times (step_down f g m i) (x (i - 1)))) (times (step_stay f g m i) (x i))

-- the chance that all m are of the first type after t steps; there is no step from 0 and from m
abbrev pub won : (ℕ → ℕ) → (ℕ → ℕ) → ℕ → ℕ → ℕ → Ratio
won f g m zero i = if i == m then whole 1 else whole 0
won f g m (suc t) i = if i == 0 then won f g m t i else if i == m then won f g m t i else after_step f g m (won f g m t) i

-- the chance that all m are of the second type after t steps
abbrev pub lost : (ℕ → ℕ) → (ℕ → ℕ) → ℕ → ℕ → ℕ → Ratio
lost f g m zero i = if i == 0 then whole 1 else whole 0
lost f g m (suc t) i = if i == 0 then lost f g m t i else if i == m then lost f g m t i else after_step f g m (lost f g m t) i

-- ---- numbers that a step leaves alone, of either sign

abbrev pub fraction_of : Ratio → Fraction
fraction_of x = record { numerator = pos x.num; denominator = x.den }

-- x = y
abbrev pub AreEqual : Fraction → Fraction → Type 0
AreEqual x y = x.numerator *ℤ pos y.denominator ≡ y.numerator *ℤ pos x.denominator

-- x + y
abbrev pub signed_plus : Fraction → Fraction → Fraction
signed_plus x y = record {
  numerator = x.numerator *ℤ pos y.denominator +ℤ y.numerator *ℤ pos x.denominator;
  denominator = x.denominator * y.denominator;
}

-- k * x
abbrev pub signed_times : Ratio → Fraction → Fraction
signed_times k x = record { numerator = pos k.num *ℤ x.numerator; denominator = k.den * x.denominator }

-- what x is on the average after one step from i
abbrev pub signed_after_step : (ℕ → ℕ) → (ℕ → ℕ) → ℕ → (ℕ → Fraction) → ℕ → Fraction
signed_after_step f g m x i =
    signed_plus (signed_plus (signed_times (step_up f g m i) (x (i + 1))) (signed_times (step_down f g m i) (x (i - 1))))
    (signed_times (step_stay f g m i) (x i))

-- x 0 = 0, x m = 1, and between them each x is its mean after one step
pub record IsSolution (f g : ℕ → ℕ) (m : ℕ) (x : ℕ → Fraction) : Type 0 where
  pub defined : (i : ℕ) → i ≤ m → 0 < (x i).denominator
  pub none : AreEqual (x 0) (fraction_of (whole 0))
  pub all : AreEqual (x m) (fraction_of (whole 1))
  pub between : (i : ℕ) → 0 < i → i < m → AreEqual (signed_after_step f g m x i) (x i)

-- ---- laws

-- the chances of fixation are a solution
abbrev pub FixationSolves : Type 0
FixationSolves = (f g : ℕ → ℕ) (m : ℕ) → 0 < m → AreFit f g m → IsSolution f g m (λ i. fraction_of (fix f g m i))

-- each solution is the chances of fixation
abbrev pub SolutionsAreFixation : Type 0
SolutionsAreFixation = (f g : ℕ → ℕ) (m i : ℕ) (x : ℕ → Fraction) → 0 < m → AreFit f g m → IsSolution f g m x → i ≤ m
    → AreEqual (x i) (fraction_of (fix f g m i))

-- after any number of steps the first type has won at most with the chance of fixation, and lost at most with the rest to 1
pub record FixationBoundsSteps : Type 0 where
  pub won_most : (f g : ℕ → ℕ) (m t i : ℕ) → AreFit f g m → 0 < m → i ≤ m → AtMost (won f g m t i) (fix f g m i)
  pub lost_most : (f g : ℕ → ℕ) (m t i : ℕ) → AreFit f g m → 0 < m → i ≤ m → AtMost (plus (lost f g m t i) (fix f g m i)) (whole 1)
