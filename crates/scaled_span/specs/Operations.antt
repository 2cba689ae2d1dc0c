-- How the errors of operations add up.
use Rattle.std.specs.Prelude.{ℕ, ◌+◌, ◌*◌, ◌^◌, ◌≤◌}
use Rattle.scaled_span.specs.declared.numbers.ScaledSpan.{ScaledSpan}
use Rattle.scaled_span.specs.Ratios.{Ratio, whole, times, over, plus_one, share_of}
use Rattle.scaled_span.specs.Values.{value, IsBelow, IsAbove}

-- the span lies around what is between lo and hi, with each end off by at most so many parts in 2^61 of lo or hi
pub record IsAround (parts : ℕ) (s : ScaledSpan) (lo hi : Ratio) : Type 0 where
  pub low : IsBelow parts s.lo lo
  pub high : IsAbove parts s.hi hi

-- n operations lead from whole points to s, and x is what they give without rounding; an operation counts once for each way in
-- which its result enters, and each end of it is off by at most one part
pub data Leads : ℕ → ScaledSpan → Ratio → Type 0 where
  point : (k : ℕ) (s : ScaledSpan) → IsAround 1 s (whole k) (whole k) → Leads 1 s (whole k)
  product : (n m : ℕ) (a b s : ScaledSpan) (x y : Ratio) → Leads n a x → Leads m b y
      → IsAround 1 s (times (value a.lo) (value b.lo)) (times (value a.hi) (value b.hi)) → Leads (n + m + 1) s (times x y)
  quotient : (n m : ℕ) (a b s : ScaledSpan) (x y : Ratio) → Leads n a x → Leads m b y
      → IsAround 1 s (over (value a.lo) (value b.hi)) (over (value a.hi) (value b.lo)) → Leads (n + m + 1) s (over x y)
  one_more : (n : ℕ) (a s : ScaledSpan) (x : Ratio) → Leads n a x
      → IsAround 1 s (plus_one (value a.lo)) (plus_one (value a.hi)) → Leads (n + 1) s (plus_one x)
  share : (n : ℕ) (a s : ScaledSpan) (x : Ratio) → Leads n a x
      → IsAround 1 s (share_of (value a.lo)) (share_of (value a.hi)) → Leads (n + 1) s (share_of x)

-- the law: an end to which n operations lead, n at most 2^40, differs from the exact value by at most 2 n parts in 2^61 of it
abbrev pub OperationsAddUp : Type 0
OperationsAddUp = (n : ℕ) (s : ScaledSpan) (x : Ratio) → n ≤ 2 ^ 40 → Leads n s x → IsAround (2 * n) s x x
