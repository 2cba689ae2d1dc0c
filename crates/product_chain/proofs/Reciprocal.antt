-- Products by a reciprocal.
use Rattle.std.proofs.Common.{ℕ, ◌+◌, ◌*◌, ◌^◌, ◌≡◌, ◌≤◌, ◌<◌, arith}
use Rattle.std.proofs.Math.Nat.{mul-le-mul_right, mul-le-mul_left, mul-le-mul}

-- x in halves h and l, the reciprocal of q in halves ih and il, and the upper halves u and t of h * il and l * ih
pub reciprocal_low : (x h l ih il q u t : ℕ) → x ≡ h * 2 ^ 64 + l → (ih * 2 ^ 64 + il) * q ≤ 2 ^ 128 → u * 2 ^ 64 ≤ h * il → t * 2 ^ 64 ≤ l * ih → (h * ih + (u + t)) * q ≤ x
reciprocal_low x h l ih il q u t e inverse uh th =
    let r = h * ih + (u + t) in
    let a : r * 2 ^ 128 ≤ (h * 2 ^ 64 + l) * (ih * 2 ^ 64 + il) = omega (arith, uh, th) in
    let b : r * 2 ^ 128 * q ≤ (h * 2 ^ 64 + l) * (ih * 2 ^ 64 + il) * q = mul-le-mul_right q a in
    let d : (h * 2 ^ 64 + l) * ((ih * 2 ^ 64 + il) * q) ≤ (h * 2 ^ 64 + l) * 2 ^ 128 = mul-le-mul_left (h * 2 ^ 64 + l) inverse in
    omega (arith, b, d, e)

pub reciprocal_high : (x h l ih il q u t : ℕ) → x ≡ h * 2 ^ 64 + l → h < 2 ^ 64 → l < 2 ^ 64 → il < 2 ^ 64 → 2 ^ 128 ≤ (ih * 2 ^ 64 + il + 1) * q →
    h * il < (u + 1) * 2 ^ 64 → l * ih < (t + 1) * 2 ^ 64 → x ≤ (h * ih + (u + t) + 4) * q
reciprocal_high x h l ih il q u t e hb lb ib inverse uh th =
    let r = h * ih + (u + t) in
    let lb' : l ≤ 2 ^ 64 = omega arith in let ib' : il ≤ 2 ^ 64 = omega arith in
    let m : l * il ≤ 2 ^ 64 * 2 ^ 64 = mul-le-mul lb' ib' in
    let a : (h * 2 ^ 64 + l) * (ih * 2 ^ 64 + il + 1) ≤ (r + 4) * 2 ^ 128 = omega (arith, uh, th, m) in
    let b : (h * 2 ^ 64 + l) * (ih * 2 ^ 64 + il + 1) * q ≤ (r + 4) * 2 ^ 128 * q = mul-le-mul_right q a in
    let d : (h * 2 ^ 64 + l) * 2 ^ 128 ≤ (h * 2 ^ 64 + l) * ((ih * 2 ^ 64 + il + 1) * q) = mul-le-mul_left (h * 2 ^ 64 + l) inverse in
    omega (arith, b, d, e)
