-- Numbers and points in texts: decimal digits without sign and without leading zeros.
use Rattle.std.specs.Prelude.{◌≡◌, ◌↔◌, ℕ, ◌+◌, ◌*◌, ◌/◌, ◌%◌, ◌^◌, ◌-◌, ◌<◌, ◌≤◌, ◌&&◌, ◌||◌, ◌==◌, ◌⊎◌, Bool, true, false, not, nat_lt, nat_le, List, [], ◌∷◌, ◌++◌, length, take, drop, replicate, Option, Some, None, if◌then◌else◌}
use Rattle.std.specs.Fmt.{decimal}
use Rattle.texts.specs.Cuts.{before, behind, lacks}

-- ---- writing

-- digits with zeros before them, up to a width
abbrev pub zero_padded : ℕ → List ℕ → List ℕ
zero_padded width digits = replicate (width - length digits) 48 ++ digits

-- the text of a number of units of 10^-decimals: its whole part, a point, and so many decimals
abbrev pub point_text : ℕ → ℕ → List ℕ
point_text decimals units = decimal (units / 10 ^ decimals) ++ (46 ∷ zero_padded decimals (decimal (units % 10 ^ decimals)))

-- chances are shown with nine decimals, and scores with twelve
abbrev pub IsDecimals : ℕ → Type 0
IsDecimals decimals = (decimals ≡ 9) ⊎ (decimals ≡ 12)

-- ---- reading

-- a step that may give nothing, and then another
infixl 10 ◌>>=◌
abbrev pub ◌>>=◌ : {A B : Type 0} → Option A → (A → Option B) → Option B
(Some x) >>= f = f x
None >>= f = None

-- a byte from `0` to `9`
abbrev pub is_digit : ℕ → Bool
is_digit c = nat_le 48 c && nat_le c 57

-- the number that the digits n and those of a text make; None at another byte, and where 38 digits don't do
abbrev pub value_from : ℕ → List ℕ → Option ℕ
value_from n [] = Some n
value_from n (c ∷ cs) = if is_digit c && nat_lt n (10 ^ 37) then value_from (n * 10 + (c - 48)) cs else None

-- not empty, and with `0` in front of nothing
abbrev pub is_well_led : List ℕ → Bool
is_well_led [] = false
is_well_led (c ∷ cs) = not (c == 48) || length cs == 0

-- the number below 10^38 that a text is the decimal text of
unfoldable pub number_of : List ℕ → Option ℕ
number_of text = if is_well_led text then value_from 0 text else None

-- the number below 2^64 that a text is the decimal text of
unfoldable pub small : List ℕ → Option ℕ
small text = number_of text >>= λ n. if nat_lt n (2 ^ 64) then Some n else None

-- the number that digits make which fill a width, zeros in front or not
abbrev pub value_of_width : ℕ → List ℕ → Option ℕ
value_of_width width text = if length text == width then value_from 0 text else None

-- the units of a whole part and its decimals, where they are at most 10^37
abbrev pub units_of : ℕ → ℕ → ℕ → Option ℕ
units_of decimals whole part =
    if nat_lt (10 ^ 37 / 10 ^ decimals) whole then None else if nat_lt (10 ^ 37) (whole * 10 ^ decimals + part) then None else Some (whole * 10 ^ decimals + part)

-- a point in front of a text, of at most 10^37 units, and what stands behind it
unfoldable pub point_at : ℕ → List ℕ → Option (ℕ × List ℕ)
point_at decimals text = do
  whole ← number_of (before 46 text)
  part ← value_of_width decimals (take decimals (behind 46 text))
  units ← units_of decimals whole part
  Some (units, drop decimals (behind 46 text))

-- ---- laws

-- a byte that is no digit
abbrev pub IsNoDigit : ℕ → Type 0
IsNoDigit byte = (byte < 48) ⊎ (57 < byte)

-- a text is read as a number exactly where it is the number's decimal text, which is digits alone
pub record NumbersAreExact : Type 0 where
  pub numbers : (text : List ℕ) (n : ℕ) → (number_of text ≡ Some n) ↔ ((text ≡ decimal n) × (n < 10 ^ 38))
  pub small_numbers : (text : List ℕ) (n : ℕ) → (small text ≡ Some n) ↔ ((text ≡ decimal n) × (n < 2 ^ 64))
  pub digits : (byte n : ℕ) → IsNoDigit byte → n < 10 ^ 38 → lacks byte (decimal n) ≡ true

-- a point is read from a text exactly where its text stands in front, which is digits and one `.`
pub record PointsAreExact : Type 0 where
  pub points : (decimals : ℕ) (text : List ℕ) (units : ℕ) (rest : List ℕ) → 0 < decimals → decimals ≤ 37
      → (point_at decimals text ≡ Some (units, rest)) ↔ ((text ≡ point_text decimals units ++ rest) × (units ≤ 10 ^ 37))
  pub digits : (byte decimals units : ℕ) → (byte < 46) ⊎ (57 < byte) → units ≤ 10 ^ 37 → lacks byte (point_text decimals units) ≡ true
