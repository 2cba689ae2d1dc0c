-- The order of fractions, and how nearness adds up.
use Rattle.std.proofs.Common.{ℕ, zero, suc, ◌+◌, ◌-◌, ◌*◌, ◌^◌, ◌≡◌, ◌≤◌, ◌<◌, sym, ap, arith, ◌⊎◌, inl, inr}
use Rattle.std.proofs.Math.Nat.{mul-sub, mul-le-mul_right, mul-le-mul_left, mul-le-mul, le_of_mul-le-mul_right, mul-pos}
use Rattle.scaled_span.specs.declared.numbers.Scaled.{Scaled}
use Rattle.scaled_span.specs.Values.{value, IsBelow, IsAbove, IsRoundedDown, IsRoundedUp}
use Rattle.scaled_span.specs.Ratios.{Ratio, AtMost, Same, IsClose, times, over, plus_one, share_of}

-- k * m ≤ k * n, with k above 0
pub cancel : (m n k : ℕ) → 0 < k → m * k ≤ n * k → m ≤ n
cancel m n k h e = le_of_mul-le-mul_right e h

pub AtMost-refl : (x : Ratio) → AtMost x x
AtMost-refl x = record { cross = omega arith }

at_most_plain : (a b c d e f : ℕ) → 0 < d → a * d ≤ c * b → c * f ≤ e * d → a * f ≤ e * b
at_most_plain a b c d e f pd h k =
    cancel (a * f) (e * b) d pd (omega (arith, mul-le-mul_right f h, mul-le-mul_right b k))

pub AtMost-trans : (x y z : Ratio) → 0 < y.den → AtMost x y → AtMost y z → AtMost x z
AtMost-trans x y z p h k = record { cross = at_most_plain x.num x.den y.num y.den z.num z.den p h.cross k.cross }

pub AtMost-times : (a b c d : Ratio) → AtMost a b → AtMost c d → AtMost (times a c) (times b d)
AtMost-times a b c d h k = record { cross = omega (arith, mul-le-mul h.cross k.cross) }

pub AtMost-over : (a b c d : Ratio) → AtMost a b → AtMost d c → AtMost (over a c) (over b d)
AtMost-over a b c d h k = record { cross = omega (arith, mul-le-mul h.cross k.cross) }

pub AtMost-plus_one : (a b : Ratio) → AtMost a b → AtMost (plus_one a) (plus_one b)
AtMost-plus_one a b h = record { cross = omega (arith, h.cross) }

pub AtMost-share : (a b : Ratio) → AtMost a b → AtMost (share_of a) (share_of b)
AtMost-share a b h = record { cross = omega (arith, h.cross) }

-- (u - n) (u - m) is at least u (u - (n + m))
room_plain : (p q r n m u : ℕ) → p + n ≡ u → q + m ≡ u → r + (n + m) ≡ u → u * r ≤ p * q
room_plain p q r n m u ep eq er =
    let lower : r ≤ p = omega arith in
    let qe : q ≡ r + n = omega arith in
    omega (arith, ap (λ z. z * r) ep, ap (λ z. p * z) qe, mul-le-mul_left n lower)

pub room : (u n m : ℕ) → u * (u - (n + m)) ≤ (u - n) * (u - m)
room u n m = by_cases (cases (n + m) u)
  where
    cases : (a b : ℕ) → (a ≤ b) ⊎ (b < a)
    cases zero b = inl (omega arith)
    cases (suc a) zero = inr (omega arith)
    cases (suc a) (suc b) = elim (cases a b) [ inl h ↦ inl (omega arith) | inr h ↦ inr (omega arith) ]

    by_cases : ((n + m) ≤ u) ⊎ (u < n + m) → u * (u - (n + m)) ≤ (u - n) * (u - m)
    by_cases (inl h) = room_plain (u - n) (u - m) (u - (n + m)) n m u (omega arith) (omega arith) (omega arith)
    by_cases (inr h) = let e : u - (n + m) ≡ 0 = omega arith in rw e (omega arith)

-- y w a.d ≤ a y.d u
trans_plain : (an ad bn bd cn cd u p q r : ℕ) → 0 < u → 0 < bd → u * r ≤ p * q →
    bn * p * ad ≤ an * bd * u → cn * q * bd ≤ bn * cd * u → cn * r * ad ≤ an * cd * u
trans_plain an ad bn bd cn cd u p q r up bp room h k =
    cancel (cn * r * ad) (an * cd * u) (u * bd) (mul-pos up bp)
    (omega (arith, mul-le-mul_right (cd * u) h, mul-le-mul_right (p * ad) k, mul-le-mul_left (cn * bd * ad) room))

pub IsClose-trans : (u n m : ℕ) (a b c : Ratio) → 0 < u → 0 < b.den → IsClose u n a b → IsClose u m b c → IsClose u (n + m) a c
IsClose-trans u n m a b c up bp h k =
    record { close = trans_plain a.num a.den b.num b.den c.num c.den u (u - n) (u - m) (u - (n + m)) up bp (room u n m) h.close k.close }

both_plain : (an ad bn bd cn cd dn dd u p q r : ℕ) → 0 < u → u * r ≤ p * q →
    bn * p * ad ≤ an * bd * u → dn * q * cd ≤ cn * dd * u → (bn * dn) * r * (ad * cd) ≤ (an * cn) * (bd * dd) * u
both_plain an ad bn bd cn cd dn dd u p q r up room h k =
    cancel ((bn * dn) * r * (ad * cd)) ((an * cn) * (bd * dd) * u) u up
    (omega (arith, mul-le-mul h k, mul-le-mul_left (bn * dn * ad * cd) room))

pub IsClose-times : (u n m : ℕ) (a b c d : Ratio) → 0 < u → IsClose u n a b → IsClose u m c d → IsClose u (n + m) (times a c) (times b d)
IsClose-times u n m a b c d up h k =
    record { close = both_plain a.num a.den b.num b.den c.num c.den d.num d.den u (u - n) (u - m) (u - (n + m)) up (room u n m) h.close k.close }

-- a is near b, and d near c: a / c is near b / d
pub IsClose-over : (u n m : ℕ) (a b c d : Ratio) → 0 < u → IsClose u n a b → IsClose u m d c → IsClose u (n + m) (over a c) (over b d)
IsClose-over u n m a b c d up h k =
    let e = both_plain a.num a.den b.num b.den d.num d.den c.num c.den u (u - n) (u - m) (u - (n + m)) up (room u n m) h.close k.close in
    record { close = omega (arith, e) }

one_plain : (an ad bn bd u p : ℕ) → p ≤ u → bn * p * ad ≤ an * bd * u → (bn + bd) * p * ad ≤ (an + ad) * bd * u
one_plain an ad bn bd u p h k = omega (arith, k, mul-le-mul_left (bd * ad) h)

pub IsClose-plus_one : (u n : ℕ) (a b : Ratio) → IsClose u n a b → IsClose u n (plus_one a) (plus_one b)
IsClose-plus_one u n a b h = record { close = one_plain a.num a.den b.num b.den u (u - n) (omega arith) h.close }

share_plain : (an ad bn bd u p : ℕ) → p ≤ u → bn * p * ad ≤ an * bd * u → bn * p * (an + ad) ≤ an * (bn + bd) * u
share_plain an ad bn bd u p h k = omega (arith, k, mul-le-mul_left (an * bn) h)

pub IsClose-share : (u n : ℕ) (a b : Ratio) → IsClose u n a b → IsClose u n (share_of a) (share_of b)
IsClose-share u n a b h = record { close = share_plain a.num a.den b.num b.den u (u - n) (omega arith) h.close }

pub IsClose-more : (u n m : ℕ) (a b : Ratio) → n ≤ m → IsClose u n a b → IsClose u m a b
IsClose-more u n m a b h k =
    let less : u - m ≤ u - n = omega arith in
    record { close = omega (arith, k.close, mul-le-mul_left (b.num * a.den) less) }

-- what is at most is near with no part missing
pub IsClose-of_most : (u : ℕ) (a b : Ratio) → AtMost b a → IsClose u 0 a b
IsClose-of_most u a b h = record { close = let e : u - 0 ≡ u = omega arith in rw e (omega (arith, mul-le-mul_right u h.cross)) }

-- parts of a finer unit
pub IsClose-unit : (k u n : ℕ) (a b : Ratio) → 0 < k → IsClose (k * u) (k * n) a b → IsClose u n a b
IsClose-unit k u n a b kp h =
    record { close = cancel (b.num * (u - n) * a.den) (a.num * b.den * u) k kp (omega (arith, h.close, ap (λ z. b.num * z * a.den) (mul-sub' k u n))) }
  where
    mul-sub' : (k m n : ℕ) → k * m - k * n ≡ k * (m - n)
    mul-sub' k m n = sym (mul-sub k m n)

pub AtMost-same : (x y : Ratio) → Same x y → AtMost x y
AtMost-same x y h = record { cross = omega (arith, h.cross) }

pub AtMost-same_back : (x y : Ratio) → Same x y → AtMost y x
AtMost-same_back x y h = record { cross = omega (arith, h.cross) }

-- a number r that was got from y by n parts in u, where y is x rounded by m such parts
pub down_by_steps : (u n m : ℕ) (r : Scaled) (y x : Ratio) → 0 < u → 0 < y.den → AtMost (value r) y → IsClose u n (value r) y → AtMost y x → IsClose u m y x → IsRoundedDown u (n + m) r x
down_by_steps u n m r y x up p b c d e = record {
  below = AtMost-trans (value r) y x p b d;
  close = IsClose-trans u n m (value r) y x up p c e;
}

pub up_by_steps : (u n m : ℕ) (r : Scaled) (y x : Ratio) → 0 < u → 0 < y.den → AtMost y (value r) → IsClose u n y (value r) → AtMost x y → IsClose u m x y → IsRoundedUp u (m + n) r x
up_by_steps u n m r y x up p b c d e = record {
  above = AtMost-trans x y (value r) p d b;
  close = IsClose-trans u m n x y (value r) up p e c;
}

-- parts of the exact number, of a coarser unit
pub down_coarser : (n : ℕ) (r : Scaled) (x : Ratio) → n ≤ 4 → IsRoundedDown (2 ^ 63) n r x → IsBelow 1 r x
down_coarser n r x few h =
    let c = IsClose-unit 4 (2 ^ 61) 1 (value r) x (omega arith) (IsClose-more (2 ^ 63) n 4 (value r) x few h.close) in
    record { below = h.below; near = c.close }

exact_plain : (a b n : ℕ) → n ≤ 3 → a * (2 ^ 63 - n) ≤ b * 2 ^ 63 → a * 2 ^ 61 ≤ b * (2 ^ 61 + 1)
exact_plain a b n few k = let less : 2 ^ 63 - 3 ≤ 2 ^ 63 - n = omega arith in omega (arith, k, mul-le-mul_left a less)

pub up_coarser : (n : ℕ) (r : Scaled) (x : Ratio) → n ≤ 3 → IsRoundedUp (2 ^ 63) n r x → IsAbove 1 r x
up_coarser n r x few h =
    let e = exact_plain ((value r).num * x.den) (x.num * (value r).den) n few (omega (arith, h.close.close)) in
    record { above = h.above; near = omega (arith, e) }

pub below_close : (r : Scaled) (x : Ratio) → IsBelow 1 r x → IsClose (2 ^ 61) 1 (value r) x
below_close r x h = record { close = h.near }

rounded_plain : (a b : ℕ) → a * 2 ^ 61 ≤ b * (2 ^ 61 + 1) → a * (2 ^ 61 - 1) ≤ b * 2 ^ 61
rounded_plain a b h = omega (arith, h)

pub above_close : (r : Scaled) (x : Ratio) → IsAbove 1 r x → IsClose (2 ^ 61) 1 x (value r)
above_close r x h =
    let e = rounded_plain ((value r).num * x.den) (x.num * (value r).den) (omega (arith, h.near)) in
    record { close = omega (arith, e) }

pub down_more : (n m : ℕ) (r : Scaled) (x : Ratio) → n ≤ m → IsRoundedDown (2 ^ 63) n r x → IsRoundedDown (2 ^ 63) m r x
down_more n m r x few h = record { below = h.below; close = IsClose-more (2 ^ 63) n m (value r) x few h.close }

pub up_more : (n m : ℕ) (r : Scaled) (x : Ratio) → n ≤ m → IsRoundedUp (2 ^ 63) n r x → IsRoundedUp (2 ^ 63) m r x
up_more n m r x few h = record { above = h.above; close = IsClose-more (2 ^ 63) n m x (value r) few h.close }

-- the same, where y is x
pub down_by_same_once : (r : Scaled) (y x : Ratio) → 0 < y.den → AtMost (value r) y → IsClose (2 ^ 63) 1 (value r) y → Same y x → IsRoundedDown (2 ^ 63) 1 r x
down_by_same_once r y x p b c s = down_by_steps (2 ^ 63) 1 0 r y x (omega arith) p b c (AtMost-same y x s) (IsClose-of_most (2 ^ 63) y x (AtMost-same_back y x s))

pub down_by_same : (r : Scaled) (y x : Ratio) → 0 < y.den → AtMost (value r) y → IsClose (2 ^ 63) 1 (value r) y → Same y x → IsRoundedDown (2 ^ 63) 2 r x
down_by_same r y x p b c s = down_more 1 2 r x (omega arith) (down_by_same_once r y x p b c s)

pub up_by_same : (r : Scaled) (y x : Ratio) → 0 < y.den → AtMost y (value r) → IsClose (2 ^ 63) 1 y (value r) → Same y x → IsRoundedUp (2 ^ 63) 2 r x
up_by_same r y x p b c s = up_more 1 2 r x (omega arith) (up_by_steps (2 ^ 63) 1 0 r y x (omega arith) p b c (AtMost-same_back y x s) (IsClose-of_most (2 ^ 63) x y (AtMost-same y x s)))
