-- Scores as fitness, and how well it is known.
use Rattle.std.proofs.Common.{ℕ, suc, ◌+◌, ◌-◌, ◌*◌, ◌^◌, ◌≡◌, ◌≤◌, ◌<◌, refl, ap, arith, ℤ, pos, negsuc, neg_ℤ, ◌+ℤ◌, ◌*ℤ◌, ◌≤ℤ◌}
use Rattle.std.proofs.lemmas.Int.{ints}
use Rattle.std.proofs.Math.Nat.{mul-le-mul_left, mul-le-mul_right, mul-pos}
use borrow.Author.Differences.{up, down}
use Rattle.fixed_span.specs.Span.{Ends, Fraction, Holds, score_units}
use Rattle.scaled_span.specs.Ratios.{above_zero, below_zero}
use Rattle.moran_chain.specs.declared.ranges.Range.{Range}
use Rattle.moran_chain.specs.Fixation.{worth_of}
use Rattle.moran_chain.specs.Ranges.{IsNarrow, Lies}
use Rattle.moran_chain.proofs.Differences.{of_itself, of_natural, of_sum, of_part, equal_of}

pub low_end : (n b : ℕ) (e : ℤ) → 1 ≤ n → pos 0 ≤ℤ (pos b +ℤ pos n *ℤ e) → neg_ℤ (pos b) ≤ℤ e
low_end n b (pos k) h l = omega (arith, ints)
low_end n b (negsuc k) h l = omega (arith, ints, mul-le-mul_right (suc k) h)

-- ---- how well a range is known
known_plain : (lo hi n t k w : ℕ) → hi ≤ lo + n * t → t * 10 ^ 12 ≤ lo → k ≡ n * 2305844 → w ≤ 2 ^ 61 → w + k ≤ 2 ^ 61 → hi * w ≤ lo * 2 ^ 61
known_plain lo hi n t k w h l e some all =
    omega (arith, mul-le-mul_right w h, mul-le-mul_right k l, ap (λ z. t * z) e, mul-le-mul_left (n * t) some, mul-le-mul_left lo all)

pub known_of : (r : Range) (n t : ℕ) → n ≤ 100 → r.hi ≤ r.lo + n * t → t * 10 ^ 12 ≤ r.lo → IsNarrow (n * 2305844) r
known_of r n t few h l = record { known = known_plain r.lo r.hi n t (n * 2305844) (2 ^ 61 - n * 2305844) h l refl (omega arith) (omega arith) }

-- ---- scores in the spans give worths in the ranges
low_plain : (rl n k u q ul dl ua da uw dw : ℕ) → rl + n * dl ≡ k * u + n * ul → ul * q + da * u ≤ ua * u + dl * q → uw + n * da ≡ k * q + n * ua + dw → rl * q + dw * u ≤ uw * u
low_plain rl n k u q ul dl ua da uw dw a b c = omega (arith, ap (λ z. z * q) a, mul-le-mul_left n b, ap (λ z. z * u) c)

high_plain : (rh n k u q uh dh ua da uw dw : ℕ) → rh + n * dh ≡ k * u + n * uh → ua * u + dh * q ≤ uh * q + da * u → uw + n * da ≡ k * q + n * ua + dw → uw * u ≤ rh * q + dw * u
high_plain rh n k u q uh dh ua da uw dw a b c = omega (arith, ap (λ z. z * q) a, mul-le-mul_left n b, ap (λ z. z * u) c)

-- z lies between lo and hi, both above 0, so it is a natural number
pub record IsWorth (r : Range) (z : ℤ) (q u : ℕ) : Type 0 where
  pub natural : pos (above_zero z) ≡ z
  pub lies : Lies r (above_zero z) q u

lies_cases : (z : ℤ) (r : Range) (q u : ℕ) → 0 < q → r.lo * q + below_zero z * u ≤ above_zero z * u → above_zero z * u ≤ r.hi * q + below_zero z * u → IsWorth r z q u
lies_cases (pos n) r q u qp a b = record { natural = refl; lies = record { low = omega (arith, a); high = omega (arith, b) } }
lies_cases (negsuc n) r q u qp a b = let rp : 0 < r.lo = r.some in let p : 0 < r.lo * q = mul-pos rp qp in absurd (omega (arith, a))

-- a score x over so many turns
pub lies_of : (r : Range) (s : Ends) (wn wd turns : ℕ) (x : Fraction) → pos r.lo ≡ worth_of wn wd (turns * score_units) s.lo → pos r.hi ≡ worth_of wn wd (turns * score_units) s.hi →
    Holds score_units s x → IsWorth r (worth_of wn wd (turns * x.denominator) x.numerator) x.denominator score_units
lies_of r s wn wd turns x el eh h =
    let u = score_units in
    let q = x.denominator in
    let n = x.numerator in
    let k = (wd - wn) * turns in
    let z = worth_of wn wd (turns * q) n in
    let a : r.lo + wn * down s.lo ≡ k * u + wn * up s.lo = omega (arith, ints, el) in
    let b : r.hi + wn * down s.hi ≡ k * u + wn * up s.hi = omega (arith, ints, eh) in
    let c : up s.lo * q + down n * u ≤ up n * u + down s.lo * q = omega (arith, ints, h.low) in
    let d : up n * u + down s.hi * q ≤ up s.hi * q + down n * u = omega (arith, ints, h.high) in
    let e : up z + wn * down n ≡ k * q + wn * up n + down z = omega (arith, ints) in
    lies_cases z r q u h.above_zero
    (low_plain r.lo wn k u q (up s.lo) (down s.lo) (up n) (down n) (up z) (down z) a c e)
    (high_plain r.hi wn k u q (up s.hi) (down s.hi) (up n) (down n) (up z) (down z) b d e)

-- over a common denominator
pub lies_common : (r : Range) (x q u k den : ℕ) → den ≡ q * k → Lies r x q u → Lies r (x * k) den u
lies_common r x q u k den e h = record {
  low = omega (arith, ap (λ z. r.lo * z) e, mul-le-mul_right k h.low);
  high = omega (arith, ap (λ z. r.hi * z) e, mul-le-mul_right k h.high);
}

-- ---- 1 - w + w times a mean of x and y is the mean of what x and y are worth
mean_plain : (k n j l r p q a b xp xq yp yq : ℕ) → j + l ≡ r → a + n * xq ≡ k * p + n * xp → b + n * yq ≡ k * q + n * yp →
    k * (r * (p * q)) + n * (j * q * xp + l * p * yp) ≡ j * q * a + l * p * b + n * (j * q * xq + l * p * yq)
mean_plain k n j l r p q a b xp xq yp yq er ea eb = omega (arith, ap (λ z. j * q * z) ea, ap (λ z. l * p * z) eb, ap (λ z. k * p * q * z) er)

pub mean_worth : (wn wd j l r p q : ℕ) (x y : ℤ) → j + l ≡ r → pos (above_zero (worth_of wn wd p x)) ≡ worth_of wn wd p x → pos (above_zero (worth_of wn wd q y)) ≡ worth_of wn wd q y →
    above_zero (worth_of wn wd (r * (p * q)) (pos (j * q) *ℤ x +ℤ pos (l * p) *ℤ y)) ≡ j * q * above_zero (worth_of wn wd p x) + l * p * above_zero (worth_of wn wd q y)
mean_worth wn wd j l r p q x y er ex ey =
    let a = above_zero (worth_of wn wd p x) in
    let b = above_zero (worth_of wn wd q y) in
    let k = wd - wn in
    let plain = mean_plain k wn j l r p q a b (up x) (down x) (up y) (down y) er (omega (arith, ints, ex)) (omega (arith, ints, ey)) in
    let all : worth_of wn wd (r * (p * q)) (pos (j * q) *ℤ x +ℤ pos (l * p) *ℤ y) ≡ pos (j * q * a + l * p * b) =
    equal_of _ _ _ _ _ _ (omega (arith, plain))
    (of_sum _ _ _ _ _ _ (of_natural (k * (r * (p * q)))) (of_part wn _ _ _ (of_sum _ _ _ _ _ _ (of_part (j * q) _ _ _ (of_itself x)) (of_part (l * p) _ _ _ (of_itself y)))))
    (of_natural (j * q * a + l * p * b)) in
    ap above_zero all
