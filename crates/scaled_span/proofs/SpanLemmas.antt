-- What the operations on spans keep: every member's result, nearness and tightness.
use Rattle.std.proofs.Common.{ℕ, zero, suc, ◌+◌, ◌-◌, ◌*◌, ◌^◌, ◌≡◌, ◌≤◌, ◌<◌, ap, arith, ℤ, pos, negsuc, ◌<ℤ◌, ◌⊎◌, inl, inr}
use Rattle.std.proofs.lemmas.Int.{ints}
use Rattle.std.proofs.lemmas.Nat.{pow_pos}
use Rattle.std.proofs.Math.Nat.{mul-le-mul_left, mul-le-mul_right, mul-pos, pow-le-pow_right}
use Rattle.scaled_span.specs.declared.numbers.Scaled.{Scaled}
use Rattle.scaled_span.specs.declared.numbers.ScaledSpan.{ScaledSpan}
use Rattle.scaled_span.specs.Ratios.{Ratio, AtMost, Same, IsClose, whole, times, over, plus_one, share_of, scaled, above_zero, below_zero}
use Rattle.scaled_span.specs.Values.{value, IsBelow, IsAbove, IsRoundedDown, IsRoundedUp, IsIn, EndsAreClose, IsFloorOf, IsCappedCeiling}
use Rattle.scaled_span.specs.Operations.{IsAround}
use Rattle.scaled_span.proofs.RatioLemmas.{cancel, AtMost-trans, AtMost-refl, AtMost-times, AtMost-over, AtMost-plus_one, AtMost-share, IsClose-trans, IsClose-times, IsClose-over, IsClose-plus_one, IsClose-share, IsClose-more, IsClose-of_most, AtMost-same, AtMost-same_back, down_by_steps, up_by_steps, down_by_same_once, up_by_same, down_coarser, up_coarser, below_close, above_close}

pub value_den : (s : Scaled) → 0 < (value s).den
value_den s = pow_pos (below_zero s.e)

pub value_num : (s : Scaled) → 0 < (value s).num
value_num s = let n : 2 ^ 63 ≤ s.m = s.normal in let p : 0 < s.m = omega arith in mul-pos p (pow_pos (above_zero s.e))

-- ---- share: t / (1 + t) by two operations
share_same : (t : Ratio) → Same (over t (plus_one t)) (share_of t)
share_same t = record { cross = omega arith }

pub share_down : (t y r : Scaled) → IsRoundedUp (2 ^ 63) 2 y (plus_one (value t)) → IsRoundedDown (2 ^ 63) 2 r (over (value t) (value y)) → IsBelow 1 r (share_of (value t))
share_down t y r h k =
    let x = value t in
    let d : 0 < (over x (value y)).den = mul-pos (value_den t) (value_num y) in
    let e : 0 < (over x (plus_one x)).den = let n = value_num t in let m : 0 < x.num + x.den = omega arith in mul-pos (value_den t) m in
    let low : AtMost (over x (value y)) (over x (plus_one x)) = AtMost-over x x (value y) (plus_one x) (AtMost-refl x) h.above in
    let close : IsClose (2 ^ 63) 2 (over x (value y)) (over x (plus_one x)) = IsClose-over (2 ^ 63) 0 2 x x (value y) (plus_one x) (omega arith) (IsClose-of_most (2 ^ 63) x x (AtMost-refl x)) h.close in
    let step = down_by_steps (2 ^ 63) 2 2 r (over x (value y)) (over x (plus_one x)) (omega arith) d k.below k.close low close in
    down_coarser 4 r (share_of x) (omega arith)
    (down_by_steps (2 ^ 63) 4 0 r (over x (plus_one x)) (share_of x) (omega arith) e step.below step.close (AtMost-same _ _ (share_same x)) (IsClose-of_most (2 ^ 63) _ _ (AtMost-same_back _ _ (share_same x))))

pub share_up : (t y r : Scaled) → IsRoundedDown (2 ^ 63) 1 y (plus_one (value t)) → IsRoundedUp (2 ^ 63) 2 r (over (value t) (value y)) → IsAbove 1 r (share_of (value t))
share_up t y r h k =
    let x = value t in
    let d : 0 < (over x (value y)).den = mul-pos (value_den t) (value_num y) in
    let e : 0 < (over x (plus_one x)).den = let n = value_num t in let m : 0 < x.num + x.den = omega arith in mul-pos (value_den t) m in
    let high : AtMost (over x (plus_one x)) (over x (value y)) = AtMost-over x x (plus_one x) (value y) (AtMost-refl x) h.below in
    let close : IsClose (2 ^ 63) 1 (over x (plus_one x)) (over x (value y)) = IsClose-over (2 ^ 63) 0 1 x x (plus_one x) (value y) (omega arith) (IsClose-of_most (2 ^ 63) x x (AtMost-refl x)) h.close in
    let step = up_by_steps (2 ^ 63) 2 1 r (over x (value y)) (over x (plus_one x)) (omega arith) d k.above k.close high close in
    up_coarser 3 r (share_of x) (omega arith)
    (up_by_steps (2 ^ 63) 3 0 r (over x (plus_one x)) (share_of x) (omega arith) e step.above step.close (AtMost-same_back _ _ (share_same x)) (IsClose-of_most (2 ^ 63) _ _ (AtMost-same _ _ (share_same x))))

-- ---- every member's result
pub mul_holds : (a b r : ScaledSpan) (x y : Ratio) → IsBelow 1 r.lo (times (value a.lo) (value b.lo)) → IsAbove 1 r.hi (times (value a.hi) (value b.hi)) →
    IsIn a x → IsIn b y → IsIn r (times x y)
mul_holds a b r x y l h p q = record {
  low = AtMost-trans (value r.lo) (times (value a.lo) (value b.lo)) (times x y) (mul-pos (value_den a.lo) (value_den b.lo)) l.below (AtMost-times (value a.lo) x (value b.lo) y p.low q.low);
  high = AtMost-trans (times x y) (times (value a.hi) (value b.hi)) (value r.hi) (mul-pos (value_den a.hi) (value_den b.hi)) (AtMost-times x (value a.hi) y (value b.hi) p.high q.high) h.above;
}

pub div_holds : (a b r : ScaledSpan) (x y : Ratio) → IsBelow 1 r.lo (over (value a.lo) (value b.hi)) → IsAbove 1 r.hi (over (value a.hi) (value b.lo)) →
    IsIn a x → IsIn b y → IsIn r (over x y)
div_holds a b r x y l h p q = record {
  low = AtMost-trans (value r.lo) (over (value a.lo) (value b.hi)) (over x y) (mul-pos (value_den a.lo) (value_num b.hi)) l.below (AtMost-over (value a.lo) x (value b.hi) y p.low q.high);
  high = AtMost-trans (over x y) (over (value a.hi) (value b.lo)) (value r.hi) (mul-pos (value_den a.hi) (value_num b.lo)) (AtMost-over x (value a.hi) y (value b.lo) p.high q.low) h.above;
}

pub add_one_holds : (a r : ScaledSpan) (x : Ratio) → IsBelow 1 r.lo (plus_one (value a.lo)) → IsAbove 1 r.hi (plus_one (value a.hi)) → IsIn a x → IsIn r (plus_one x)
add_one_holds a r x l h p = record {
  low = AtMost-trans (value r.lo) (plus_one (value a.lo)) (plus_one x) (value_den a.lo) l.below (AtMost-plus_one (value a.lo) x p.low);
  high = AtMost-trans (plus_one x) (plus_one (value a.hi)) (value r.hi) (value_den a.hi) (AtMost-plus_one x (value a.hi) p.high) h.above;
}

pub share_den : (s : Scaled) → 0 < (share_of (value s)).den
share_den s = let d = value_den s in omega arith

pub share_holds : (a r : ScaledSpan) (x : Ratio) → IsBelow 1 r.lo (share_of (value a.lo)) → IsAbove 1 r.hi (share_of (value a.hi)) → IsIn a x → IsIn r (share_of x)
share_holds a r x l h p = record {
  low = AtMost-trans (value r.lo) (share_of (value a.lo)) (share_of x) (share_den a.lo) l.below (AtMost-share (value a.lo) x p.low);
  high = AtMost-trans (share_of x) (share_of (value a.hi)) (value r.hi) (share_den a.hi) (AtMost-share x (value a.hi) p.high) h.above;
}

-- ---- whole numbers
whole_same : (n : ℕ) → Same (scaled n (pos 0)) (whole n)
whole_same n = record { cross = omega arith }

pub whole_below : (n : ℕ) (r : Scaled) → AtMost (value r) (scaled n (pos 0)) → IsClose (2 ^ 63) 1 (value r) (scaled n (pos 0)) → IsBelow 1 r (whole n)
whole_below n r b c = down_coarser 1 r (whole n) (omega arith) (down_by_same_once r (scaled n (pos 0)) (whole n) (omega arith) b c (whole_same n))

pub whole_above : (n : ℕ) (r : Scaled) → AtMost (scaled n (pos 0)) (value r) → IsClose (2 ^ 63) 1 (scaled n (pos 0)) (value r) → IsAbove 1 r (whole n)
whole_above n r b c = up_coarser 2 r (whole n) (omega arith) (up_by_same r (scaled n (pos 0)) (whole n) (omega arith) b c (whole_same n))

pub from_whole_holds : (lo hi : ℕ) (r : ScaledSpan) (x : Ratio) → IsBelow 1 r.lo (whole lo) → IsAbove 1 r.hi (whole hi) → AtMost (whole lo) x → AtMost x (whole hi) → IsIn r x
from_whole_holds lo hi r x l h p q = record {
  low = AtMost-trans (value r.lo) (whole lo) x (omega arith) l.below p;
  high = AtMost-trans x (whole hi) (value r.hi) (omega arith) q h.above;
}

-- ---- tightness: each operation adds two parts
pub around : (n : ℕ) (r : ScaledSpan) (x y : Ratio) → 0 < x.den → 0 < y.den → IsBelow 1 r.lo x → IsClose (2 ^ 61) n x y → IsAbove 1 r.hi y → EndsAreClose (n + 2) r
around n r x y xp yp l c h =
    let first = IsClose-trans (2 ^ 61) 1 n (value r.lo) x y (omega arith) xp (below_close r.lo x l) c in
    let second = IsClose-trans (2 ^ 61) (1 + n) 1 (value r.lo) y (value r.hi) (omega arith) yp first (above_close r.hi y h) in
    record { tight = IsClose-more (2 ^ 61) (1 + n + 1) (n + 2) (value r.lo) (value r.hi) (omega arith) second }

pub from_whole_tight : (n lo hi : ℕ) (r : ScaledSpan) → IsBelow 1 r.lo (whole lo) → IsAbove 1 r.hi (whole hi) → hi * (2 ^ 61 - n) ≤ lo * 2 ^ 61 → EndsAreClose (n + 2) r
from_whole_tight n lo hi r l h e = around n r (whole lo) (whole hi) (omega arith) (omega arith) l (record { close = omega (arith, e) }) h

pub mul_tight : (n m : ℕ) (a b r : ScaledSpan) → IsBelow 1 r.lo (times (value a.lo) (value b.lo)) → IsAbove 1 r.hi (times (value a.hi) (value b.hi)) →
    EndsAreClose n a → EndsAreClose m b → EndsAreClose (n + m + 2) r
mul_tight n m a b r l h p q =
    around (n + m) r (times (value a.lo) (value b.lo)) (times (value a.hi) (value b.hi)) (mul-pos (value_den a.lo) (value_den b.lo)) (mul-pos (value_den a.hi) (value_den b.hi)) l
    (IsClose-times (2 ^ 61) n m (value a.lo) (value a.hi) (value b.lo) (value b.hi) (omega arith) p.tight q.tight) h

pub div_tight : (n m : ℕ) (a b r : ScaledSpan) → IsBelow 1 r.lo (over (value a.lo) (value b.hi)) → IsAbove 1 r.hi (over (value a.hi) (value b.lo)) →
    EndsAreClose n a → EndsAreClose m b → EndsAreClose (n + m + 2) r
div_tight n m a b r l h p q =
    around (n + m) r (over (value a.lo) (value b.hi)) (over (value a.hi) (value b.lo)) (mul-pos (value_den a.lo) (value_num b.hi)) (mul-pos (value_den a.hi) (value_num b.lo)) l
    (IsClose-over (2 ^ 61) n m (value a.lo) (value a.hi) (value b.hi) (value b.lo) (omega arith) p.tight q.tight) h

pub add_one_tight : (n : ℕ) (a r : ScaledSpan) → IsBelow 1 r.lo (plus_one (value a.lo)) → IsAbove 1 r.hi (plus_one (value a.hi)) → EndsAreClose n a → EndsAreClose (n + 2) r
add_one_tight n a r l h p =
    around n r (plus_one (value a.lo)) (plus_one (value a.hi)) (value_den a.lo) (value_den a.hi) l (IsClose-plus_one (2 ^ 61) n (value a.lo) (value a.hi) p.tight) h

pub share_tight : (n : ℕ) (a r : ScaledSpan) → IsBelow 1 r.lo (share_of (value a.lo)) → IsAbove 1 r.hi (share_of (value a.hi)) → EndsAreClose n a → EndsAreClose (n + 2) r
share_tight n a r l h p =
    around n r (share_of (value a.lo)) (share_of (value a.hi)) (share_den a.lo) (share_den a.hi) l (IsClose-share (2 ^ 61) n (value a.lo) (value a.hi) p.tight) h

-- ---- nearness: each operation adds one part
-- x lies in the span, and each end is within n parts in 2^61 of it
pub record IsNear (n : ℕ) (s : ScaledSpan) (x : Ratio) : Type 0 where
  pub low : AtMost (value s.lo) x
  pub high : AtMost x (value s.hi)
  pub low_close : IsClose (2 ^ 61) n (value s.lo) x
  pub high_close : IsClose (2 ^ 61) n x (value s.hi)

near_low : (n : ℕ) (r : Scaled) (e x : Ratio) → 0 < e.den → IsBelow 1 r e → IsClose (2 ^ 61) n e x → IsClose (2 ^ 61) (n + 1) (value r) x
near_low n r e x ep l c = IsClose-more (2 ^ 61) (1 + n) (n + 1) (value r) x (omega arith) (IsClose-trans (2 ^ 61) 1 n (value r) e x (omega arith) ep (below_close r e l) c)

near_high : (n : ℕ) (r : Scaled) (e x : Ratio) → 0 < e.den → IsAbove 1 r e → IsClose (2 ^ 61) n x e → IsClose (2 ^ 61) (n + 1) x (value r)
near_high n r e x ep h c = IsClose-trans (2 ^ 61) n 1 x e (value r) (omega arith) ep c (above_close r e h)

held : (n : ℕ) (s : ScaledSpan) (x : Ratio) → IsNear n s x → IsIn s x
held n s x h = record { low = h.low; high = h.high }

pub mul_near : (n m : ℕ) (a b r : ScaledSpan) (x y : Ratio) → IsBelow 1 r.lo (times (value a.lo) (value b.lo)) → IsAbove 1 r.hi (times (value a.hi) (value b.hi)) →
    IsNear n a x → IsNear m b y → IsNear (n + m + 1) r (times x y)
mul_near n m a b r x y l h p q =
    let holds = mul_holds a b r x y l h (held n a x p) (held m b y q) in
    record {
      low = holds.low;
      high = holds.high;
      low_close = near_low (n + m) r.lo (times (value a.lo) (value b.lo)) (times x y) (mul-pos (value_den a.lo) (value_den b.lo)) l (IsClose-times (2 ^ 61) n m (value a.lo) x (value b.lo) y (omega arith) p.low_close q.low_close);
      high_close = near_high (n + m) r.hi (times (value a.hi) (value b.hi)) (times x y) (mul-pos (value_den a.hi) (value_den b.hi)) h (IsClose-times (2 ^ 61) n m x (value a.hi) y (value b.hi) (omega arith) p.high_close q.high_close);
    }

pub div_near : (n m : ℕ) (a b r : ScaledSpan) (x y : Ratio) → IsBelow 1 r.lo (over (value a.lo) (value b.hi)) → IsAbove 1 r.hi (over (value a.hi) (value b.lo)) →
    IsNear n a x → IsNear m b y → IsNear (n + m + 1) r (over x y)
div_near n m a b r x y l h p q =
    let holds = div_holds a b r x y l h (held n a x p) (held m b y q) in
    record {
      low = holds.low;
      high = holds.high;
      low_close = near_low (n + m) r.lo (over (value a.lo) (value b.hi)) (over x y) (mul-pos (value_den a.lo) (value_num b.hi)) l (IsClose-over (2 ^ 61) n m (value a.lo) x (value b.hi) y (omega arith) p.low_close q.high_close);
      high_close = near_high (n + m) r.hi (over (value a.hi) (value b.lo)) (over x y) (mul-pos (value_den a.hi) (value_num b.lo)) h (IsClose-over (2 ^ 61) n m x (value a.hi) y (value b.lo) (omega arith) p.high_close q.low_close);
    }

pub add_one_near : (n : ℕ) (a r : ScaledSpan) (x : Ratio) → IsBelow 1 r.lo (plus_one (value a.lo)) → IsAbove 1 r.hi (plus_one (value a.hi)) → IsNear n a x → IsNear (n + 1) r (plus_one x)
add_one_near n a r x l h p =
    let holds = add_one_holds a r x l h (held n a x p) in
    record {
      low = holds.low;
      high = holds.high;
      low_close = near_low n r.lo (plus_one (value a.lo)) (plus_one x) (value_den a.lo) l (IsClose-plus_one (2 ^ 61) n (value a.lo) x p.low_close);
      high_close = near_high n r.hi (plus_one (value a.hi)) (plus_one x) (value_den a.hi) h (IsClose-plus_one (2 ^ 61) n x (value a.hi) p.high_close);
    }

pub share_near : (n : ℕ) (a r : ScaledSpan) (x : Ratio) → IsBelow 1 r.lo (share_of (value a.lo)) → IsAbove 1 r.hi (share_of (value a.hi)) → IsNear n a x → IsNear (n + 1) r (share_of x)
share_near n a r x l h p =
    let holds = share_holds a r x l h (held n a x p) in
    record {
      low = holds.low;
      high = holds.high;
      low_close = near_low n r.lo (share_of (value a.lo)) (share_of x) (share_den a.lo) l (IsClose-share (2 ^ 61) n (value a.lo) x p.low_close);
      high_close = near_high n r.hi (share_of (value a.hi)) (share_of x) (share_den a.hi) h (IsClose-share (2 ^ 61) n x (value a.hi) p.high_close);
    }

pub from_whole_near : (n : ℕ) (r : ScaledSpan) → IsBelow 1 r.lo (whole n) → IsAbove 1 r.hi (whole n) → IsNear 1 r (whole n)
from_whole_near n r l h = record { low = l.below; high = h.above; low_close = below_close r.lo (whole n) l; high_close = above_close r.hi (whole n) h }

-- ---- n operations: each end differs from the exact value by at most 2 n parts in 2^61 of it
off_plain : (n a b u p : ℕ) → p + n ≡ u → 2 * n ≤ u → 0 < u → a * p ≤ b * u → a * u ≤ b * (u + 2 * n)
off_plain n a b u p e h up k =
    let less : n ≤ p = omega arith in
    let some : 0 < p = omega arith in
    cancel (a * u) (b * (u + 2 * n)) p some
    (omega (arith, mul-le-mul_right u k, ap (λ z. b * u * z) e, ap (λ z. b * z * n) e, mul-le-mul_left (b * n) less))

pub near_is_around : (n : ℕ) (s : ScaledSpan) (x : Ratio) → n ≤ 2 ^ 40 → IsNear n s x → IsAround (2 * n) s x x
near_is_around n s x few h =
    let low = IsClose-more (2 ^ 61) n (2 * n) (value s.lo) x (omega arith) h.low_close in
    let high = off_plain n ((value s.hi).num * x.den) (x.num * (value s.hi).den) (2 ^ 61) (2 ^ 61 - n) (omega arith) (omega arith) (omega arith) (omega (arith, h.high_close.close)) in
    record { low = record { below = h.low; near = low.close }; high = record { above = h.high; near = omega (arith, high) } }

-- ---- billionths
-- a number of exponent above -63 is more than 1
pub more_than_one : (m : ℕ) (e : ℤ) → 2 ^ 63 ≤ m → negsuc 62 <ℤ e → 2 * 2 ^ below_zero e ≤ m * 2 ^ above_zero e
more_than_one m (pos n) h k = let p : 0 < 2 ^ n = pow_pos n in omega (arith, mul-le-mul_right (2 ^ n) h)
more_than_one m (negsuc n) h k =
    let few : suc n ≤ 62 = omega (arith, ints) in
    let p : 2 ^ suc n ≤ 2 ^ 62 = pow-le-pow_right (omega arith) few in
    omega arith

pub floor_of : (m r k : ℕ) (e : ℤ) → above_zero e ≡ 0 → k ≡ below_zero e → r * 2 ^ k ≤ 10 ^ 9 * m → 10 ^ 9 * m < (r + 1) * 2 ^ k → IsFloorOf (10 ^ 9) (scaled m e) r
floor_of m r k e h d b a =
    let one : 2 ^ above_zero e ≡ 1 = ap (λ z. 2 ^ z) h in
    let deep : 2 ^ k ≡ 2 ^ below_zero e = ap (λ z. 2 ^ z) d in
    record { below = omega (arith, ap (λ z. m * z) one, ap (λ z. r * z) deep, b); above = omega (arith, ap (λ z. m * z) one, ap (λ z. r * z) deep, deep, a) }

pub ceiling_of : (m r k : ℕ) (e : ℤ) → above_zero e ≡ 0 → k ≡ below_zero e → 10 ^ 9 * m ≤ r * 2 ^ k → r * 2 ^ k < 10 ^ 9 * m + 2 ^ k → r ≤ 10 ^ 9 → IsCappedCeiling (10 ^ 9) (scaled m e) r
ceiling_of m r k e h d a l few =
    let one : 2 ^ above_zero e ≡ 1 = ap (λ z. 2 ^ z) h in
    let deep : 2 ^ k ≡ 2 ^ below_zero e = ap (λ z. 2 ^ z) d in
    record { most = few; least = omega (arith, ap (λ z. m * z) one, ap (λ z. r * z) deep, deep, l); enough = λ u. omega (arith, ap (λ z. m * z) one, ap (λ z. r * z) deep, a) }

pub capped_of : (m r k : ℕ) (e : ℤ) → above_zero e ≡ 0 → k ≡ below_zero e → r * 2 ^ k < 10 ^ 9 * m + 2 ^ k → 10 ^ 9 ≤ r → IsCappedCeiling (10 ^ 9) (scaled m e) (10 ^ 9)
capped_of m r k e h d l many =
    let one : 2 ^ above_zero e ≡ 1 = ap (λ z. 2 ^ z) h in
    let deep : 2 ^ k ≡ 2 ^ below_zero e = ap (λ z. 2 ^ z) d in
    record { most = omega arith; least = omega (arith, ap (λ z. m * z) one, deep, l, mul-le-mul_right (2 ^ k) many); enough = λ u. absurd (omega arith) }

pub capped_above : (m : ℕ) (e : ℤ) → 2 ^ 63 ≤ m → negsuc 62 <ℤ e → IsCappedCeiling (10 ^ 9) (scaled m e) (10 ^ 9)
capped_above m e h k =
    let p : 0 < 2 ^ below_zero e = pow_pos (below_zero e) in
    record { most = omega arith; least = omega (arith, more_than_one m e h k); enough = λ u. absurd (omega arith) }

pub not_above : (m : ℕ) (e : ℤ) → 2 ^ 63 ≤ m → negsuc 62 <ℤ e → AtMost (scaled m e) (whole 1) → ⊥
not_above m e h k l =
    let p : 0 < 2 ^ below_zero e = pow_pos (below_zero e) in
    omega (arith, more_than_one m e h k, l.cross)

-- ends that were rounded outward from x and y
pub ordered_of : (r s : Scaled) (x y : Ratio) → 0 < x.den → 0 < y.den → AtMost (value r) x → AtMost x y → AtMost y (value s) → AtMost (value r) (value s)
ordered_of r s x y xp yp low m high = AtMost-trans (value r) x (value s) xp low (AtMost-trans x y (value s) yp m high)

-- floor and ceiling of ends in order are in order
pub billionths_ordered : (l h : ℕ) (x y : Ratio) → 0 < x.den → 0 < y.den → AtMost x y → AtMost x (whole 1) → IsFloorOf (10 ^ 9) x l → IsCappedCeiling (10 ^ 9) y h → l ≤ h
billionths_ordered l h x y xp yp o one a b = by_size (compare h (10 ^ 9))
  where
    compare : (m n : ℕ) → (m < n) ⊎ (n ≤ m)
    compare zero zero = inr (omega arith)
    compare zero (suc n) = inl (omega arith)
    compare (suc m) zero = inr (omega arith)
    compare (suc m) (suc n) = elim (compare m n) [ inl p ↦ inl (omega arith) | inr p ↦ inr (omega arith) ]

    by_size : (h < 10 ^ 9) ⊎ (10 ^ 9 ≤ h) → l ≤ h
    by_size (inl p) =
        let e : 10 ^ 9 * y.num ≤ h * y.den = b.enough p in
        cancel l h (x.den * y.den) (mul-pos xp yp) (omega (arith, mul-le-mul_right y.den a.below, mul-le-mul_left (10 ^ 9) o.cross, mul-le-mul_right x.den e))
    by_size (inr p) = cancel l h x.den xp (omega (arith, a.below, one.cross, mul-le-mul_right x.den p))
