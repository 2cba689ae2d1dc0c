-- The chance of fixation: sums and products of odds.
use Rattle.std.proofs.Common.{ℕ, zero, suc, ◌+◌, ◌*◌, ◌≡◌, ◌≤◌, ◌<◌, refl, sym, ap, arith, subst}
use Rattle.std.proofs.Math.Nat.{mul-pos, eq_of_mul-eq-mul_right}
use Rattle.scaled_span.specs.Ratios.{Ratio, Same, whole, times, over, plus_one, share_of}
use Rattle.moran_chain.specs.Moran.{plus, odds, product_to, sum_to, fix, AreFit}
use Rattle.moran_chain.specs.Ranges.{nested, stretch}

-- ---- equal fractions
pub Same-refl : (x : Ratio) → Same x x
Same-refl x = record { cross = refl }

pub Same-sym : (x y : Ratio) → Same x y → Same y x
Same-sym x y h = record { cross = sym h.cross }

same_plain : (a b c d e f : ℕ) → 0 < d → a * d ≡ c * b → c * f ≡ e * d → a * f ≡ e * b
same_plain a b c d e f pd h k = eq_of_mul-eq-mul_right d pd (a * f) (e * b) (omega (arith, ap (λ z. z * f) h, ap (λ z. z * b) k))

pub Same-trans : (x y z : Ratio) → 0 < y.den → Same x y → Same y z → Same x z
Same-trans x y z p h k = record { cross = same_plain x.num x.den y.num y.den z.num z.den p h.cross k.cross }

pub Same-plus : (a b c d : Ratio) → Same a b → Same c d → Same (plus a c) (plus b d)
Same-plus a b c d h k = record { cross = omega (arith, ap (λ z. z * c.den * d.den) h.cross, ap (λ z. z * a.den * b.den) k.cross) }

pub Same-plus_left : (x y z : Ratio) → Same x y → Same (plus x z) (plus y z)
Same-plus_left x y z h = record { cross = omega (arith, ap (λ k. k * z.den * z.den) h.cross) }

pub Same-over_left : (x y z : Ratio) → Same x y → Same (over x z) (over y z)
Same-over_left x y z h = record { cross = omega (arith, ap (λ k. k * z.den * z.num) h.cross) }

-- ---- what is above 0
pub product_den : (f g : ℕ → ℕ) (m k : ℕ) → AreFit f g m → k < m → 0 < (product_to f g k).den
product_den f g m zero h b = omega arith
product_den f g m (suc k) h b = mul-pos (product_den f g m k h (omega arith)) (h.first (suc k) (omega arith) b)

pub product_num : (f g : ℕ → ℕ) (m k : ℕ) → AreFit f g m → k < m → 0 < (product_to f g k).num
product_num f g m zero h b = omega arith
product_num f g m (suc k) h b = mul-pos (product_num f g m k h (omega arith)) (h.second (suc k) (omega arith) b)

pub sum_den : (f g : ℕ → ℕ) (m i : ℕ) → AreFit f g m → i ≤ m → 0 < (sum_to f g i).den
sum_den f g m zero h b = omega arith
sum_den f g m (suc i) h b = mul-pos (sum_den f g m i h (omega arith)) (product_den f g m i h (omega arith))

pub sum_num : (f g : ℕ → ℕ) (m i : ℕ) → AreFit f g m → suc i ≤ m → 0 < (sum_to f g (suc i)).num
sum_num f g m i h b =
    let p : 0 < (product_to f g i).num * (sum_to f g i).den = mul-pos (product_num f g m i h (omega arith)) (sum_den f g m i h (omega arith)) in
    omega arith

pub nested_den : (f g : ℕ → ℕ) (m j n : ℕ) → AreFit f g m → j + n < m → 0 < (nested f g j n).den
nested_den f g m j zero h b = omega arith
nested_den f g m j (suc n) h b = mul-pos (h.first (suc j) (omega arith) (omega arith)) (nested_den f g m (suc j) n h (omega arith))

pub nested_num : (f g : ℕ → ℕ) (m j n : ℕ) → AreFit f g m → j + n < m → 0 < (nested f g j n).num
nested_num f g m j zero h b = omega arith
nested_num f g m j (suc n) h b = let p : 0 < f (suc j) * (nested f g (suc j) n).den = nested_den f g m j (suc n) h b in omega arith

-- ---- S(i) and the rest of S(k)
regroup : (s p o r : Ratio) → Same (plus s (times p (plus_one (times o r)))) (plus (plus s p) (times (times p o) r))
regroup s p o r = record { cross = plain s.num s.den p.num p.den o.num o.den r.num r.den }
  where
    plain : (sn sd pn pd on od rn rd : ℕ) →
        (sn * (pd * (od * rd)) + pn * (on * rn + od * rd) * sd) * (sd * pd * (pd * od * rd)) ≡ ((sn * pd + pn * sd) * (pd * od * rd) + pn * on * rn * (sd * pd)) * (sd * (pd * (od * rd)))
    plain sn sd pn pd on od rn rd = omega arith

last : (s p : Ratio) → Same (plus s (times p (whole 1))) (plus s p)
last s p = record { cross = omega arith }

pub sum_split : (f g : ℕ → ℕ) (m i n k : ℕ) → AreFit f g m → k ≡ suc (i + n) → k ≤ m → Same (plus (sum_to f g i) (times (product_to f g i) (nested f g i n))) (sum_to f g k)
sum_split f g m i zero k h e b =
    let e' : k ≡ suc i = omega arith in
    subst (λ z. Same (plus (sum_to f g i) (times (product_to f g i) (whole 1))) (sum_to f g z)) (sym e') (last (sum_to f g i) (product_to f g i))
sum_split f g m i (suc n) k h e b =
    let later = sum_split f g m (suc i) n k h (omega arith) b in
    let x = plus (sum_to f g i) (times (product_to f g i) (nested f g i (suc n))) in
    let y = plus (sum_to f g (suc i)) (times (product_to f g (suc i)) (nested f g (suc i) n)) in
    Same-trans x y (sum_to f g k)
    (mul-pos (sum_den f g m (suc i) h (omega arith)) (mul-pos (product_den f g m (suc i) h (omega arith)) (nested_den f g m (suc i) n h (omega arith))))
    (regroup (sum_to f g i) (product_to f g i) (odds f g (suc i)) (nested f g (suc i) n)) later

nothing : (r : Ratio) → Same r (plus (whole 0) (times (whole 1) r))
nothing r = record { cross = omega arith }

pub sum_nested : (f g : ℕ → ℕ) (m n : ℕ) → AreFit f g m → suc n ≤ m → Same (nested f g 0 n) (sum_to f g (suc n))
sum_nested f g m n h b =
    let r = nested f g 0 n in
    let d : 0 < r.den = nested_den f g m 0 n h (omega arith) in
    Same-trans r (plus (whole 0) (times (whole 1) r)) (sum_to f g (suc n)) (omega arith) (nothing r) (sum_split f g m 0 n (suc n) h (omega arith) b)

share_plain : (s r t : Ratio) → Same (plus s r) t → Same (share_of (over s r)) (over s t)
share_plain s r t h = record { cross = omega (arith, ap (λ z. s.num * z) h.cross) }

pub fix_same : (f g : ℕ → ℕ) (m i n l : ℕ) → AreFit f g m → i ≡ suc n → suc (i + l) ≡ m →
    Same (share_of (over (nested f g 0 n) (times (product_to f g i) (nested f g i l)))) (fix f g m i)
fix_same f g m i n l h ei em =
    let s = nested f g 0 n in
    let r = times (product_to f g i) (nested f g i l) in
    let t = sum_to f g m in
    let first : Same s (sum_to f g i) = subst (λ z. Same s (sum_to f g z)) (sym ei) (sum_nested f g m n h (omega arith)) in
    let all : Same (plus (sum_to f g i) r) t = sum_split f g m i l m h (omega arith) (omega arith) in
    let sd : 0 < s.den = nested_den f g m 0 n h (omega arith) in
    let rd : 0 < r.den = mul-pos (product_den f g m i h (omega arith)) (nested_den f g m i l h (omega arith)) in
    let both : Same (plus s r) t = Same-trans (plus s r) (plus (sum_to f g i) r) t (mul-pos (sum_den f g m i h (omega arith)) rd) (Same-plus_left s (sum_to f g i) r first) all in
    let tn : 0 < t.num = subst (λ z. 0 < (sum_to f g z).num) em (sum_num f g m (i + l) h (omega arith)) in
    Same-trans (share_of (over s r)) (over s t) (fix f g m i) (mul-pos sd tn) (share_plain s r t both) (Same-over_left s (sum_to f g i) t first)

pub share_den : (f g : ℕ → ℕ) (m i n l : ℕ) → AreFit f g m → i ≡ suc n → suc (i + l) ≡ m →
    0 < (share_of (over (nested f g 0 n) (times (product_to f g i) (nested f g i l)))).den
share_den f g m i n l h ei em =
    let r = times (product_to f g i) (nested f g i l) in
    let rd : 0 < r.den = mul-pos (product_den f g m i h (omega arith)) (nested_den f g m i l h (omega arith)) in
    let p : 0 < (nested f g 0 n).num * r.den = mul-pos (nested_num f g m 0 n h (omega arith)) rd in
    omega arith

-- ---- the product from the inside
assoc : (p o s : Ratio) → Same (times p (times o s)) (times (times p o) s)
assoc p o s = record { cross = omega arith }

pub stretch_some : (f g : ℕ → ℕ) (m j n : ℕ) → AreFit f g m → suc (j + n) < m → 0 < (stretch f g j n).den
stretch_some f g m j zero h b = h.first (suc j) (omega arith) (omega arith)
stretch_some f g m j (suc n) h b = mul-pos (h.first (suc j) (omega arith) (omega arith)) (stretch_some f g m (suc j) n h (omega arith))

stretch_more : (f g : ℕ → ℕ) (m j n k : ℕ) → AreFit f g m → k ≡ suc (j + n) → k < m → Same (times (product_to f g j) (stretch f g j n)) (product_to f g k)
stretch_more f g m j zero k h e b =
    let e' : k ≡ suc j = omega arith in
    subst (λ z. Same (product_to f g (suc j)) (product_to f g z)) (sym e') (Same-refl (product_to f g (suc j)))
stretch_more f g m j (suc n) k h e b =
    let later = stretch_more f g m (suc j) n k h (omega arith) b in
    let y = times (product_to f g (suc j)) (stretch f g (suc j) n) in
    Same-trans (times (product_to f g j) (stretch f g j (suc n))) y (product_to f g k) (mul-pos (product_den f g m (suc j) h (omega arith)) (stretch_some f g m (suc j) n h (omega arith)))
    (assoc (product_to f g j) (odds f g (suc j)) (stretch f g (suc j) n)) later

pub stretch_same : (f g : ℕ → ℕ) (m n k : ℕ) → AreFit f g m → k ≡ suc n → k < m → Same (stretch f g 0 n) (product_to f g k)
stretch_same f g m n k h e b =
    let s = stretch f g 0 n in
    let d : 0 < s.den = stretch_some f g m 0 n h (omega arith) in
    Same-trans s (times (whole 1) s) (product_to f g k) (omega arith) (record { cross = omega arith }) (stretch_more f g m 0 n k h (omega arith) b)

-- ---- fitness in another unit
Same-times : (a b c d : Ratio) → Same a b → Same c d → Same (times a c) (times b d)
Same-times a b c d h k = record { cross = omega (arith, ap (λ z. z * c.num * d.den) h.cross, ap (λ z. b.num * a.den * z) k.cross) }

Same-over : (a b c d : Ratio) → Same a b → Same c d → Same (over a c) (over b d)
Same-over a b c d h k = record { cross = omega (arith, ap (λ z. z * c.den * d.num) h.cross, ap (λ z. b.num * a.den * z) k.cross) }

module _ (f g x y : ℕ → ℕ) (m : ℕ) (alike : (j : ℕ) → 0 < j → j < m → Same (odds f g j) (odds x y j)) where
  products_alike : (k : ℕ) → k < m → Same (product_to f g k) (product_to x y k)
  products_alike zero b = record { cross = refl }
  products_alike (suc k) b = Same-times (product_to f g k) (product_to x y k) (odds f g (suc k)) (odds x y (suc k)) (products_alike k (omega arith)) (alike (suc k) (omega arith) b)

  sums_alike : (i : ℕ) → i ≤ m → Same (sum_to f g i) (sum_to x y i)
  sums_alike zero b = record { cross = refl }
  sums_alike (suc i) b = Same-plus (sum_to f g i) (sum_to x y i) (product_to f g i) (product_to x y i) (sums_alike i (omega arith)) (products_alike i (omega arith))

  pub fix_alike : (i : ℕ) → i ≤ m → Same (fix f g m i) (fix x y m i)
  fix_alike i b = Same-over (sum_to f g i) (sum_to x y i) (sum_to f g m) (sum_to x y m) (sums_alike i b) (sums_alike m (omega arith))
