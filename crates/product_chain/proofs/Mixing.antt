-- Means of two numbers by parts of a whole.
use Rattle.std.proofs.Common.{ℕ, ◌+◌, ◌-◌, ◌*◌, ◌^◌, ◌≡◌, ◌≤◌, ◌<◌, arith, ap}
use Rattle.std.proofs.Math.Nat.{mul-le-mul_right, mul-le-mul_left, lt_of_mul-lt-mul_right}
use Rattle.product_chain.specs.Layer.{IsNear}
use Rattle.product_chain.specs.Slim.{IsPart, IsMix}

-- the upper half of the product of twice the part and c + 2^63 - d
module _ (part c d spread r : ℕ) (less : part < 2 ^ 63) (c_less : c < 2 ^ 63) (d_less : d < 2 ^ 63) (is : spread + d ≡ c + 2 ^ 63) (low : r * 2 ^ 64 ≤ 2 * part * spread) (high : 2 * part * spread < (r + 1) * 2 ^ 64) where
  product : part * spread + part * d ≡ part * c + 2 ^ 63 * part
  product = omega (arith, ap (λ z. part * z) is)

  pub mix_low : r * 2 ^ 63 + part * d ≤ part * c + 2 ^ 63 * part
  mix_low = omega (arith, product, low)

  pub mix_high : part * c + 2 ^ 63 * part < (r + 1) * 2 ^ 63 + part * d
  mix_high = omega (arith, product, high)

  pub mix_above : part ≤ d + r
  mix_above =
      let less' : part ≤ 2 ^ 63 = omega (arith, less) in
      let k : 2 ^ 63 * part < 2 ^ 63 * (d + r + 1) = omega (arith, mix_high, mul-le-mul_right d less') in
      let j : part < d + r + 1 = lt_of_mul-lt-mul_right (2 ^ 63) (omega (arith, k)) in
      omega (arith, j)

  pub mix_fits : d + r < 2 ^ 64
  mix_fits =
      let less' : part ≤ 2 ^ 63 = omega (arith, less) in
      let k : r * 2 ^ 63 ≤ spread * 2 ^ 63 = omega (arith, low, mul-le-mul_right spread less') in
      omega (arith, k, is, c_less)

  pub is_mix : (x : ℕ) → x + part ≡ d + r → IsMix part c d x
  is_mix x e = record {
    low = omega (arith, mix_low, e);
    high = omega (arith, mix_high, e);
  }

-- a mean is no greater than the greater number
pub mix_small : (part c d x m : ℕ) → part < 2 ^ 63 → IsMix part c d x → c ≤ m → d ≤ m → x ≤ m
mix_small part c d x m less mix hc hd =
    let rest = 2 ^ 63 - part in
    let whole : part + rest ≡ 2 ^ 63 = omega (arith, less) in
    let k : x * 2 ^ 63 ≤ m * 2 ^ 63 = omega (arith, mix.low, mul-le-mul_left part hc, mul-le-mul_left rest hd, ap (λ z. z * d) whole, ap (λ z. z * m) whole) in
    omega (arith, k)

-- the mean of two near numbers is near the mean by the weights w and z of which q is the sum
pub mix_near : (scale below above w z q part c d x ec ed y : ℕ) → w + z ≡ q → IsPart w q part → IsMix part c d x → c ≤ 2 ^ 63 → d ≤ 2 ^ 63 →
    IsNear scale below above c ec y → IsNear scale below above d ed y →
    IsNear scale (below + 1) (above + 2) x (w * ec + z * ed) (q * y)
mix_near scale below above w z q part c d x ec ed y sum weighed mix hc hd near_c near_d =
    let total : (k : ℕ) → w * k + z * k ≡ q * k = λ k. omega (arith, ap (λ t. t * k) sum) in
    let c_part : part * q * (c * y) ≤ w * 2 ^ 63 * (c * y) = mul-le-mul_right (c * y) weighed.low in
    let d_part : w * 2 ^ 63 * (d * y) ≤ (part + 1) * q * (d * y) = mul-le-mul_right (d * y) weighed.high in
    let c_more : w * 2 ^ 63 * (c * y) ≤ (part + 1) * q * (c * y) = mul-le-mul_right (c * y) weighed.high in
    let d_less : part * q * (d * y) ≤ w * 2 ^ 63 * (d * y) = mul-le-mul_right (d * y) weighed.low in
    let c_top : c * (q * y) ≤ 2 ^ 63 * (q * y) = mul-le-mul_right (q * y) hc in
    let d_top : d * (q * y) ≤ 2 ^ 63 * (q * y) = mul-le-mul_right (q * y) hd in
    let lower = mul-le-mul_right (q * y) mix.low in
    let upper : (part * c + 2 ^ 63 * d) * (q * y) ≤ ((x + 1) * 2 ^ 63 + part * d) * (q * y) = mul-le-mul_right (q * y) (omega (arith, mix.high)) in
    let both : w * (c * y) + z * (d * y) + 0 ≤ w * (c * y) + z * (d * y) = omega arith in
    let d_all = total (d * y) in
    let x_low : x * (q * y) ≤ w * (c * y) + z * (d * y) + q * y = omega (arith, lower, c_part, d_part, d_all, d_top) in
    let x_high : w * (c * y) + z * (d * y) ≤ (x + 2) * (q * y) = omega (arith, upper, c_more, d_less, d_all, c_top) in
    record {
      low = omega (arith, x_low, mul-le-mul_left w near_c.low, mul-le-mul_left z near_d.low, total (below * y));
      high = omega (arith, x_high, mul-le-mul_left w near_c.high, mul-le-mul_left z near_d.high, total (above * y));
    }
