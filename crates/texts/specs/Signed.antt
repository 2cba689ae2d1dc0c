-- Numbers with a sign: a `-` stands before the text of the absolute value of a number below 0, and 0 has none.
use Rattle.std.specs.Prelude.{◌≡◌, ◌↔◌, ℕ, ◌^◌, ◌<◌, ◌≤◌, ◌==◌, ◌⊎◌, Bool, true, false, ℤ, pos, neg_ℤ, int_lt, unsigned_abs, List, [], ◌∷◌, ◌++◌, Option, Some, None, if◌then◌else◌}
use Rattle.texts.specs.Cuts.{lacks}
use Rattle.texts.specs.Forms.{Form}
use Rattle.texts.specs.Numbers.{◌>>=◌, point_text, point_at}

-- the text of a number, from the texts of absolute values
abbrev pub signed_text : (ℕ → List ℕ) → ℤ → List ℕ
signed_text text z = if int_lt z (pos 0) then 45 ∷ text (unsigned_abs z) else text (unsigned_abs z)

-- a `-` stands in front
abbrev pub has_minus : List ℕ → Bool
has_minus [] = false
has_minus (c ∷ cs) = c == 45

-- what stands behind a `-` in front; all where there is none
abbrev pub without_minus : List ℕ → List ℕ
without_minus [] = []
without_minus (c ∷ cs) = if c == 45 then cs else c ∷ cs

-- the number of an absolute value, below 0 or not; -0 is none
abbrev pub with_sign : Bool → ℕ → Option ℤ
with_sign minus n = if minus then (if n == 0 then None else Some (neg_ℤ (pos n))) else Some (pos n)

-- numbers with a sign, from a form of absolute values
abbrev pub signed : Form ℕ → Form ℤ
signed f = record {
  text = signed_text f.text;
  read = λ t. f.read (without_minus t) >>= with_sign (has_minus t);
  is_in = λ z. f.is_in (unsigned_abs z);
}

-- a point with a sign in front of a text, of at most 10^37 units either way, and what stands behind it
unfoldable pub signed_at : ℕ → List ℕ → Option (ℤ × List ℕ)
signed_at decimals text = do
  x ← point_at decimals (without_minus text)
  units ← with_sign (has_minus text) x.0
  Some (units, x.1)

-- ---- laws

-- a point with a sign is read from a text exactly where its text stands in front, which is digits, one `.` and a `-`
pub record SignedPointsAreExact : Type 0 where
  pub points : (decimals : ℕ) (text : List ℕ) (units : ℤ) (rest : List ℕ) → 0 < decimals → decimals ≤ 37
      → (signed_at decimals text ≡ Some (units, rest)) ↔ ((text ≡ signed_text (point_text decimals) units ++ rest) × (unsigned_abs units ≤ 10 ^ 37))
  pub digits : (byte decimals : ℕ) (units : ℤ) → (byte < 45) ⊎ (57 < byte) → unsigned_abs units ≤ 10 ^ 37 → lacks byte (signed_text (point_text decimals) units) ≡ true
