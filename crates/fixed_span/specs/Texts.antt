-- The texts of spans.
use Rattle.std.specs.Prelude.{◌≡◌, ◌↔◌, ◌<◌, ℕ, ◌^◌, ◌&&◌, ◌==◌, nat_lt, pos, ◌≤ℤ◌, ◌⊎◌, List, [], ◌∷◌, ◌++◌, length, Option, Some, None, if◌then◌else◌, true}
use Rattle.history_model.specs.Game.{magnitude}
use Rattle.texts.specs.Cuts.{lacks}
use Rattle.texts.specs.Numbers.{point_text, point_at, ◌>>=◌}
pub use Rattle.texts.specs.Numbers.{IsDecimals}
use Rattle.fixed_span.specs.Span.{Ends}

-- a span that is shown: its ends lie from 0 to 10^37 units
pub record IsShown (span : Ends) : Type 0 where
  pub low : pos 0 ≤ℤ span.lo
  pub ordered : span.lo ≤ℤ span.hi
  pub high : span.hi ≤ℤ pos (10 ^ 37)

-- a point once, and any other span by both ends with `..` between
abbrev pub ends_text : ℕ → ℕ → ℕ → List ℕ
ends_text decimals lo hi = if lo == hi then point_text decimals lo else point_text decimals lo ++ (46 ∷ 46 ∷ point_text decimals hi)

-- the text of a span with so many decimals
abbrev pub span_text : ℕ → Ends → List ℕ
span_text decimals span = ends_text decimals (magnitude span.lo) (magnitude span.hi)

-- ---- reading

-- the upper end, where nothing stands behind it and it is above the lower
abbrev pub above : ℕ → ℕ × List ℕ → Option Ends
above lo high = if length high.1 == 0 && nat_lt lo high.0 then Some (record { lo = pos lo; hi = pos high.0 }) else None

-- the span whose lower end is lo, from what stands behind that
abbrev pub span_from : ℕ → ℕ → List ℕ → Option Ends
span_from decimals lo [] = Some (record { lo = pos lo; hi = pos lo })
span_from decimals lo (b ∷ []) = None
span_from decimals lo (b ∷ c ∷ more) = if b == 46 && c == 46 then (point_at decimals more >>= above lo) else None

-- the span that a text with so many decimals is the text of
unfoldable pub span_of : ℕ → List ℕ → Option Ends
span_of decimals text = do
  low ← point_at decimals text
  span_from decimals low.0 low.1

-- ---- laws

-- a span is read from a text exactly where it is shown by it, which is digits and `.` alone
pub record SpansAreExact : Type 0 where
  pub spans : (decimals : ℕ) (text : List ℕ) (span : Ends) → IsDecimals decimals → (span_of decimals text ≡ Some span) ↔ (IsShown span × (text ≡ span_text decimals span))
  pub digits : (byte decimals : ℕ) (span : Ends) → (byte < 46) ⊎ (57 < byte) → IsShown span → lacks byte (span_text decimals span) ≡ true
