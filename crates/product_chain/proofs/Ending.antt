-- From parts of a point to spans of units.
use Rattle.std.proofs.Common.{ℕ, ◌+◌, ◌*◌, ◌≡◌, ◌≤◌, ◌<◌, sym, ap, ◌∙◌, arith, subst, max, min, ◌⊎◌, inl, inr, pos}
use Rattle.std.proofs.Math.Nat.{mul-le-mul_right, le_of_mul-le-mul_right, lt_of_mul-lt-mul_right}
use Rattle.std.proofs.lemmas.Int.{ints}
use Rattle.std.proofs.lemmas.Bool.{cases_lt}
use Rattle.fixed_span.specs.Span.{Ends, Holds, IsWithin, score_units}
use Rattle.product_chain.specs.Expected.{IsSharp}
use Rattle.product_chain.specs.Layer.{IsNear}
use Rattle.product_chain.specs.Estimate.{IsEnds}

max_times : (a b y z : ℕ) → (a < b) ⊎ (b ≤ a) → a * y ≤ z → b * y ≤ z → max a b * y ≤ z
max_times a b y z (inl h) p q = let e : max a b ≡ b = omega arith in rw e q
max_times a b y z (inr h) p q = let e : max a b ≡ a = omega arith in rw e p

min_times : (a b y z : ℕ) → (a < b) ⊎ (b ≤ a) → z ≤ a * y → z ≤ b * y → z ≤ min a b * y
min_times a b y z (inl h) p q = let e : min a b ≡ a = omega arith in rw e p
min_times a b y z (inr h) p q = let e : min a b ≡ b = omega arith in rw e q

-- l and h are the value x / scale in units, rounded down, and the greatest exact value, rounded up
module _ (x err scale floor roof l h : ℕ) (span : Ends) (some : 1 ≤ scale) (l_low : l * scale ≤ x * score_units) (l_high : x * score_units < l * scale + scale)
    (h_low : (x + err) * score_units ≤ h * scale) (h_high : h * scale < (x + err) * score_units + scale)
    (lo : span.lo ≡ pos (max l floor)) (hi : span.hi ≡ pos (min h roof)) (ordered : max l floor ≤ min h roof) where
  held : (e y : ℕ) → 0 < y → IsNear scale 0 err x e y → floor * y ≤ score_units * e → score_units * e ≤ roof * y → Holds score_units span (record { numerator = pos e; denominator = y })
  held e y some_y near under over =
      let a : l * y * scale ≤ score_units * e * scale = omega (arith, mul-le-mul_right y l_low, near.low) in
      let b : score_units * e * scale ≤ h * y * scale = omega (arith, mul-le-mul_right y h_low, near.high) in
      let a' : l * y ≤ score_units * e = le_of_mul-le-mul_right a some in
      let b' : score_units * e ≤ h * y = le_of_mul-le-mul_right b some in
      let low : max l floor * y ≤ score_units * e = max_times l floor y (score_units * e) (cases_lt l floor) a' under in
      let high : score_units * e ≤ min h roof * y = min_times h roof y (score_units * e) (cases_lt h roof) b' over in
      record { above_zero = some_y; low = rw lo (omega (arith, ints, low)); high = rw hi (omega (arith, ints, high)) }

  thin : (m : ℕ) → err * score_units ≤ m * scale → IsWithin (m + 1) span
  thin m small =
      let k : h * scale < (l + m + 2) * scale = omega (arith, l_high, h_high, small) in
      let k' : h < l + m + 2 = lt_of_mul-lt-mul_right scale k in
      let n : min h roof ≤ max l floor + (m + 1) = omega arith in
      rw (lo, hi) (omega (arith, ints, n))

  pointed : scale ≡ 1 → err ≡ 0 → span.lo ≡ span.hi
  pointed one none =
      let ll : x * score_units < l * 1 + 1 = subst (λ z. x * score_units < l * z + z) one l_high in
      let hh : h * 1 < (x + 0) * score_units + 1 = subst (λ z. h * 1 < (x + z) * score_units + 1) none (subst (λ z. h * z < (x + err) * score_units + z) one h_high) in
      let k : max l floor ≡ min h roof = omega (arith, ordered, ll, hh) in
      lo ∙ ap pos k ∙ sym hi

  sharp : (e y : ℕ) → 0 < y → err ≡ 0 → IsNear scale 0 0 x e y → IsSharp score_units span (record { numerator = pos e; denominator = y })
  sharp e y some_y none near =
      let hh : h * scale < (x + 0) * score_units + scale = subst (λ z. h * scale < (x + z) * score_units + scale) none h_high in
      let a : score_units * e * scale < (l + 1) * y * scale = omega (arith, some_y, near.high, mul-le-mul_right y (let t : x * score_units + 1 ≤ l * scale + scale = omega (arith, l_high) in t)) in
      let b : h * y * scale < (score_units * e + y) * scale = omega (arith, some_y, near.low, mul-le-mul_right y (let t : h * scale + 1 ≤ (x + 0) * score_units + scale = omega (arith, hh) in t)) in
      let a' : score_units * e < (l + 1) * y = lt_of_mul-lt-mul_right scale a in
      let b' : h * y < score_units * e + y = lt_of_mul-lt-mul_right scale b in
      let low : score_units * e < (max l floor + 1) * y = omega (arith, a', mul-le-mul_right y (let t : l ≤ max l floor = omega arith in t)) in
      let high : min h roof * y < score_units * e + y = omega (arith, b', mul-le-mul_right y (let t : min h roof ≤ h = omega arith in t)) in
      record { low = rw lo (omega (arith, ints, low)); high = rw hi (omega (arith, ints, high)) }

  pub ends_from : IsEnds x err scale floor roof span
  ends_from = record {
    holds = held;
    narrow = thin;
    low = rw lo (omega (arith, ints));
    high = rw hi (omega (arith, ints));
    point = pointed;
    sharp = sharp;
  }
