-- The verdict of two spans.
use Rattle.std.specs.Prelude.{◌≡◌, ◌<◌, ℕ, pos, ◌*ℤ◌, ◌<ℤ◌, ◌&&◌, Bool, int_lt, if◌then◌else◌}
use Rattle.std.specs.Ordering.{int_eq}
use Rattle.fixed_span.specs.declared.ordering.Verdict.{Verdict}
use Rattle.fixed_span.specs.declared.ordering.Verdict.TheVariants.{Less, Greater, Level, Undecided}
use Rattle.fixed_span.specs.Span.{Ends, Fraction, Holds}

-- all four ends are one number
abbrev pub is_level : Ends → Ends → Bool
is_level a b = (int_eq a.lo a.hi && int_eq b.lo b.hi) && int_eq a.lo b.lo

-- Less and Greater where the spans lie apart, Level where both are one point, and Undecided where they overlap otherwise
abbrev pub verdict : Ends → Ends → Verdict
verdict a b =
    if int_lt a.hi b.lo then Less else if int_lt b.hi a.lo then Greater else if is_level a b then Level else Undecided

-- what a verdict says of two numbers
abbrev pub IsTrueOf : Verdict → Fraction → Fraction → Type 0
IsTrueOf Less x y = (x.numerator *ℤ pos y.denominator) <ℤ (y.numerator *ℤ pos x.denominator)
IsTrueOf Greater x y = (y.numerator *ℤ pos x.denominator) <ℤ (x.numerator *ℤ pos y.denominator)
IsTrueOf Level x y = x.numerator *ℤ pos y.denominator ≡ y.numerator *ℤ pos x.denominator
IsTrueOf Undecided x y = Unit {0}

-- the verdict of two spans is true of any two numbers that they hold
abbrev pub VerdictsAreTrue : Type 0
VerdictsAreTrue = (units : ℕ) (a b : Ends) (x y : Fraction) → 0 < units → Holds units a x → Holds units b y → IsTrueOf (verdict a b) x y
