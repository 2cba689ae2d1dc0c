-- The chance of fixation is its own mean after a step, and bounds what is won and lost in t steps.
use Rattle.std.proofs.Common.{ℕ, zero, suc, ◌+◌, ◌-◌, ◌*◌, ◌≡◌, ◌≢◌, ◌≤◌, ◌<◌, refl, sym, ap, arith, subst, add-one, Bool, true, false, cond, nat_eq}
use Rattle.std.proofs.lemmas.Bool.{eqb-true, eqb-false}
use Rattle.std.proofs.Math.Nat.{mul-le-mul_right, mul-pos}
use Rattle.scaled_span.specs.Ratios.{Ratio, AtMost, Same, whole, times, over}
use Rattle.scaled_span.proofs.RatioLemmas.{AtMost-trans, AtMost-refl, AtMost-times, AtMost-same, AtMost-same_back}
use Rattle.moran_chain.specs.Moran.{plus, product_to, sum_to, fix, AreFit, all_ways, step_up, step_down, step_stay, after_step, won, lost, FixationBoundsSteps}
use Rattle.moran_chain.proofs.Process.{Same-plus, Same-sym, Same-trans, product_den, sum_den, sum_num}

-- ---- sums
pub Same-times_right : (k a b : Ratio) → Same a b → Same (times k a) (times k b)
Same-times_right k a b h = record { cross = omega (arith, ap (λ z. k.num * k.den * z) h.cross) }

pub AtMost-plus : (a b c d : Ratio) → AtMost a b → AtMost c d → AtMost (plus a c) (plus b d)
AtMost-plus a b c d h k = record { cross = omega (arith, mul-le-mul_right (c.den * d.den) h.cross, mul-le-mul_right (a.den * b.den) k.cross) }

-- the numbers of one denominator
over_same : (p q k : ℕ) → Same (plus (record { num = p; den = k }) (record { num = q; den = k })) (record { num = p + q; den = k })
over_same p q k = record { cross = omega arith }

weighted : (u t p k : ℕ) → Same (times (record { num = u; den = t }) (record { num = p; den = k })) (record { num = u * p; den = t * k })
weighted u t p k = record { cross = refl }

-- a mean of three numbers over one denominator
pub mean_same : (u d s t a b c k : ℕ) (x y z : Ratio) → 0 < t → 0 < k → Same x (record { num = a; den = k }) → Same y (record { num = c; den = k }) → Same z (record { num = b; den = k }) →
    u * a + d * c + s * b ≡ t * b →
    Same (plus (plus (times (record { num = u; den = t }) x) (times (record { num = d; den = t }) y)) (times (record { num = s; den = t }) z)) z
mean_same u d s t a b c k x y z tp kp hx hy hz e =
    let ux : Ratio = record { num = u; den = t } in
    let dx : Ratio = record { num = d; den = t } in
    let sx : Ratio = record { num = s; den = t } in
    let a' : Ratio = record { num = u * a; den = t * k } in
    let c' : Ratio = record { num = d * c; den = t * k } in
    let b' : Ratio = record { num = s * b; den = t * k } in
    let w : Ratio = record { num = u * a + d * c + s * b; den = t * k } in
    let v : Ratio = record { num = b; den = k } in
    let tk : 0 < t * k = mul-pos tp kp in
    let left : Same (times ux x) a' = Same-times_right ux x (record { num = a; den = k }) hx in
    let mid : Same (times dx y) c' = Same-times_right dx y (record { num = c; den = k }) hy in
    let right : Same (times sx z) b' = Same-times_right sx z v hz in
    let two : Same (plus (times ux x) (times dx y)) (record { num = u * a + d * c; den = t * k }) =
    Same-trans (plus (times ux x) (times dx y)) (plus a' c') (record { num = u * a + d * c; den = t * k }) (mul-pos tk tk) (Same-plus (times ux x) a' (times dx y) c' left mid) (over_same (u * a) (d * c) (t * k)) in
    let all : Same (plus (plus (times ux x) (times dx y)) (times sx z)) w =
    Same-trans (plus (plus (times ux x) (times dx y)) (times sx z)) (plus (record { num = u * a + d * c; den = t * k }) b') w (mul-pos tk tk)
    (Same-plus (plus (times ux x) (times dx y)) (record { num = u * a + d * c; den = t * k }) (times sx z) b' two right) (over_same (u * a + d * c) (s * b) (t * k)) in
    let back : Same w v = record { cross = omega (arith, ap (λ n. n * k) e) } in
    Same-trans (plus (plus (times ux x) (times dx y)) (times sx z)) v z kp (Same-trans (plus (plus (times ux x) (times dx y)) (times sx z)) w v tk all back) (Same-sym z v hz)

balance : (u d s t a b c e g : ℕ) → a ≡ b + g → b ≡ c + e → u * g ≡ d * e → t ≡ u + d + s → u * a + d * c + s * b ≡ t * b
balance u d s t a b c e g ea eb ug et = omega (arith, ap (λ z. u * z) ea, ap (λ z. d * z) eb, ap (λ z. z * b) et)

-- the three ways are all ways
ways_plain : (f g i r m : ℕ) → i + r ≡ m → (i * f + r * g) * m ≡ i * f * r + r * g * i + (i * f * i + r * g * r)
ways_plain f g i r m e = omega (arith, ap (λ z. (i * f + r * g) * z) e)

pub ways : (f g : ℕ → ℕ) (m i : ℕ) → i < m → all_ways f g m i ≡ (step_up f g m i).num + (step_down f g m i).num + (step_stay f g m i).num
ways f g m i b = ways_plain (f i) (g i) i (m - i) m (omega arith)

pub ways_some : (f g : ℕ → ℕ) (m i : ℕ) → AreFit f g m → 0 < i → i < m → 0 < all_ways f g m i
ways_some f g m i h p b =
    let q : 0 < i * f i = mul-pos p (h.first i p b) in
    let r : 0 < m = omega arith in
    mul-pos (positive q) r
  where
    positive : 0 < i * f i → 0 < i * f i + (m - i) * g i
    positive q = omega arith

-- S(j), S(j + 1) and S(j + 2) over S(m), from s = S(j), p = the product up to j, and o = g / f of j + 1
fix_plain : (s p t : Ratio) (f g i r m : ℕ) → i + r ≡ m → 0 < s.den → 0 < p.den → 0 < t.num → 0 < f → 0 < (i * f + r * g) * m →
    Same (plus (plus (times (record { num = i * f * r; den = (i * f + r * g) * m }) (over (plus (plus s p) (times p (record { num = g; den = f }))) t))
    (times (record { num = r * g * i; den = (i * f + r * g) * m }) (over s t)))
    (times (record { num = i * f * i + r * g * r; den = (i * f + r * g) * m }) (over (plus s p) t)))
    (over (plus s p) t)
fix_plain s p t f g i r m e sp pp tp fp wp =
    let k = s.den * p.den * (p.den * f) * t.num in
    let b = (s.num * p.den + p.num * s.den) * t.den * (p.den * f) in
    let c = s.num * t.den * p.den * (p.den * f) in
    let a = ((s.num * p.den + p.num * s.den) * (p.den * f) + p.num * g * (s.den * p.den)) * t.den in
    mean_same (i * f * r) (r * g * i) (i * f * i + r * g * r) ((i * f + r * g) * m) a b c k
    (over (plus (plus s p) (times p (record { num = g; den = f }))) t) (over s t) (over (plus s p) t) wp (mul-pos (mul-pos (mul-pos sp pp) (mul-pos pp fp)) tp)
    (record { cross = refl }) (record { cross = omega arith }) (record { cross = omega arith })
    (balance (i * f * r) (r * g * i) (i * f * i + r * g * r) ((i * f + r * g) * m) a b c (p.num * s.den * t.den * (p.den * f)) (p.num * g * (s.den * p.den) * t.den)
    (omega arith) (omega arith) (omega arith) (ways_plain f g i r m e))

pub fix_is_mean : (f g : ℕ → ℕ) (m j : ℕ) → AreFit f g m → suc j < m → Same (after_step f g m (fix f g m) (suc j)) (fix f g m (suc j))
fix_is_mean f g m j h b =
    let before : suc j - 1 ≡ j = omega arith in
    let after : suc j + 1 ≡ suc (suc j) = add-one (suc j) in
    let end : 0 < (sum_to f g m).num = some_end in
    let all = fix_plain (sum_to f g j) (product_to f g j) (sum_to f g m) (f (suc j)) (g (suc j)) (suc j) (m - suc j) m (omega arith)
    (sum_den f g m j h (omega arith)) (product_den f g m j h (omega arith)) end (h.first (suc j) (omega arith) b) (ways_some f g m (suc j) h (omega arith) b) in
    rw (before, after) all
  where
    some_end : 0 < (sum_to f g m).num
    some_end = let e : suc (m - 1) ≡ m = omega arith in subst (λ z. 0 < (sum_to f g z).num) e (sum_num f g m (m - 1) h (omega arith))

-- ---- what is won
pub after_step-mono : (f g : ℕ → ℕ) (m i : ℕ) (x y : ℕ → Ratio) → AtMost (x (i + 1)) (y (i + 1)) → AtMost (x (i - 1)) (y (i - 1)) → AtMost (x i) (y i) → AtMost (after_step f g m x i) (after_step f g m y i)
after_step-mono f g m i x y a b c =
    let u = step_up f g m i in
    let d = step_down f g m i in
    let s = step_stay f g m i in
    AtMost-plus (plus (times u (x (i + 1))) (times d (x (i - 1)))) (plus (times u (y (i + 1))) (times d (y (i - 1)))) (times s (x i)) (times s (y i))
    (AtMost-plus (times u (x (i + 1))) (times u (y (i + 1))) (times d (x (i - 1))) (times d (y (i - 1)))
    (AtMost-times u u (x (i + 1)) (y (i + 1)) (AtMost-refl u) a) (AtMost-times d d (x (i - 1)) (y (i - 1)) (AtMost-refl d) b))
    (AtMost-times s s (x i) (y i) (AtMost-refl s) c)

pub sum_end : (f g : ℕ → ℕ) (m : ℕ) → AreFit f g m → 0 < m → 0 < (sum_to f g m).num
sum_end f g m h b = let e : suc (m - 1) ≡ m = omega arith in subst (λ z. 0 < (sum_to f g z).num) e (sum_num f g m (m - 1) h (omega arith))

pub fix_den : (f g : ℕ → ℕ) (m i : ℕ) → AreFit f g m → 0 < m → i ≤ m → 0 < (fix f g m i).den
fix_den f g m i h p b = mul-pos (sum_den f g m i h b) (sum_end f g m h p)

after_den : (f g : ℕ → ℕ) (m i : ℕ) (x : ℕ → Ratio) → 0 < all_ways f g m i → 0 < (x (i + 1)).den → 0 < (x (i - 1)).den → 0 < (x i).den → 0 < (after_step f g m x i).den
after_den f g m i x w a b c = mul-pos (mul-pos (mul-pos w a) (mul-pos w b)) (mul-pos w c)

-- a mean of what is at most `fix` is at most `fix`
step_below : (f g : ℕ → ℕ) (m j : ℕ) (x : ℕ → Ratio) → AreFit f g m → suc j < m → ((i : ℕ) → i ≤ m → AtMost (x i) (fix f g m i)) → AtMost (after_step f g m x (suc j)) (fix f g m (suc j))
step_below f g m j x h b all =
    let y = fix f g m in
    AtMost-trans (after_step f g m x (suc j)) (after_step f g m y (suc j)) (y (suc j))
    (after_den f g m (suc j) y (ways_some f g m (suc j) h (omega arith) b) (fix_den f g m (suc j + 1) h (omega arith) (omega arith)) (fix_den f g m (suc j - 1) h (omega arith) (omega arith)) (fix_den f g m (suc j) h (omega arith) (omega arith)))
    (after_step-mono f g m (suc j) x y (all (suc j + 1) (omega arith)) (all (suc j - 1) (omega arith)) (all (suc j) (omega arith)))
    (AtMost-same (after_step f g m y (suc j)) (y (suc j)) (fix_is_mean f g m j h b))

inside : (f g : ℕ → ℕ) (m i : ℕ) (x : ℕ → Ratio) → AreFit f g m → i ≢ 0 → i ≢ m → i ≤ m → ((k : ℕ) → k ≤ m → AtMost (x k) (fix f g m k)) → AtMost (after_step f g m x i) (fix f g m i)
inside f g m zero x h n e b all = absurd (n refl)
inside f g m (suc j) x h n e b all = step_below f g m j x h (omega arith) all

choose : (b : Bool) (x y z : Ratio) → (b ≡ true → AtMost x z) → (b ≡ false → AtMost y z) → AtMost (cond b x y) z
choose true x y z h k = h refl
choose false x y z h k = k refl

pub won_below : (f g : ℕ → ℕ) (m t i : ℕ) → AreFit f g m → 0 < m → i ≤ m → AtMost (won f g m t i) (fix f g m i)
won_below f g m zero i h p b =
    choose (nat_eq i m) (whole 1) (whole 0) (fix f g m i)
    (λ e. subst (λ k. AtMost (whole 1) (fix f g m k)) (sym (eqb-true i m e)) (record { cross = omega arith }))
    (λ e. record { cross = omega arith })
won_below f g m (suc t) i h p b =
    let x = won f g m t in
    choose (nat_eq i 0) (x i) (cond (nat_eq i m) (x i) (after_step f g m x i)) (fix f g m i)
    (λ e. won_below f g m t i h p b)
    (λ e. choose (nat_eq i m) (x i) (after_step f g m x i) (fix f g m i) (λ e'. won_below f g m t i h p b) (λ e'. inside f g m i x h (eqb-false i 0 e) (eqb-false i m e') b (λ k q. won_below f g m t k h p q)))

-- ---- what is lost
sum_grows : (f g : ℕ → ℕ) (m i n : ℕ) → AreFit f g m → i + n ≤ m → AtMost (sum_to f g i) (sum_to f g (i + n))
sum_grows f g m i zero h b = let e : i + 0 ≡ i = omega arith in rw e (AtMost-refl (sum_to f g i))
sum_grows f g m i (suc n) h b =
    let e : i + suc n ≡ suc (i + n) = omega arith in
    rw e
    (AtMost-trans (sum_to f g i) (sum_to f g (i + n)) (sum_to f g (suc (i + n))) (sum_den f g m (i + n) h (omega arith)) (sum_grows f g m i n h (omega arith)) (adds (sum_to f g (i + n)) (product_to f g (i + n))))
  where
    adds : (s q : Ratio) → AtMost s (plus s q)
    adds s q = record { cross = omega arith }

pub fix_most : (f g : ℕ → ℕ) (m i : ℕ) → AreFit f g m → i ≤ m → AtMost (fix f g m i) (whole 1)
fix_most f g m i h b =
    let e : i + (m - i) ≡ m = omega arith in
    let s = subst (λ k. AtMost (sum_to f g i) (sum_to f g k)) e (sum_grows f g m i (m - i) h (omega arith)) in
    record { cross = omega (arith, s.cross) }

-- the sum of two means is the mean of the sums
sums_of_means : (u d s t : ℕ) (a b c x y z : Ratio) →
    Same (plus (plus (plus (times (record { num = u; den = t }) a) (times (record { num = d; den = t }) b)) (times (record { num = s; den = t }) c))
    (plus (plus (times (record { num = u; den = t }) x) (times (record { num = d; den = t }) y)) (times (record { num = s; den = t }) z)))
    (plus (plus (times (record { num = u; den = t }) (plus a x)) (times (record { num = d; den = t }) (plus b y))) (times (record { num = s; den = t }) (plus c z)))
sums_of_means u d s t a b c x y z = record { cross = omega arith }

mean_of_ones : (u d s t : ℕ) → t ≡ u + d + s → AtMost (plus (plus (times (record { num = u; den = t }) (whole 1)) (times (record { num = d; den = t }) (whole 1))) (times (record { num = s; den = t }) (whole 1))) (whole 1)
mean_of_ones u d s t e = record { cross = omega (arith, ap (λ z. t * t * z) e) }

choose_den : (b : Bool) (x y : Ratio) → 0 < x.den → (b ≡ false → 0 < y.den) → 0 < (cond b x y).den
choose_den true x y h k = h
choose_den false x y h k = k refl

inside_den : (f g : ℕ → ℕ) (m i : ℕ) (x : ℕ → Ratio) → AreFit f g m → i ≢ 0 → i ≢ m → i ≤ m → ((k : ℕ) → k ≤ m → 0 < (x k).den) → 0 < (after_step f g m x i).den
inside_den f g m i x h n e b all =
    let p : 0 < i = omega arith in
    let q : i < m = omega arith in
    after_den f g m i x (ways_some f g m i h p q) (all (i + 1) (omega arith)) (all (i - 1) (omega arith)) (all i b)

pub lost_den : (f g : ℕ → ℕ) (m t i : ℕ) → AreFit f g m → i ≤ m → 0 < (lost f g m t i).den
lost_den f g m zero i h b = choose_den (nat_eq i 0) (whole 1) (whole 0) (omega arith) (λ e. omega arith)
lost_den f g m (suc t) i h b =
    let x = lost f g m t in
    choose_den (nat_eq i 0) (x i) (cond (nat_eq i m) (x i) (after_step f g m x i)) (lost_den f g m t i h b)
    (λ e. choose_den (nat_eq i m) (x i) (after_step f g m x i) (lost_den f g m t i h b) (λ e'. inside_den f g m i x h (eqb-false i 0 e) (eqb-false i m e') b (λ k q. lost_den f g m t k h q)))

choose_sum : (b : Bool) (x y z w : Ratio) → (b ≡ true → AtMost (plus x z) w) → (b ≡ false → AtMost (plus y z) w) → AtMost (plus (cond b x y) z) w
choose_sum true x y z w h k = h refl
choose_sum false x y z w h k = k refl

lost_step : (f g : ℕ → ℕ) (m j : ℕ) (x : ℕ → Ratio) → AreFit f g m → suc j < m → ((k : ℕ) → k ≤ m → 0 < (x k).den) → ((k : ℕ) → k ≤ m → AtMost (plus (x k) (fix f g m k)) (whole 1)) →
    AtMost (plus (after_step f g m x (suc j)) (fix f g m (suc j))) (whole 1)
lost_step f g m j x h b some all =
    let i = suc j in
    let y = fix f g m in
    let ones : ℕ → Ratio = λ k. whole 1 in
    let sums : ℕ → Ratio = λ k. plus (x k) (y k) in
    let yd : (k : ℕ) → k ≤ m → 0 < (y k).den = λ k q. fix_den f g m k h (omega arith) q in
    let w = ways_some f g m i h (omega arith) b in
    let up = i + 1 in
    let down = i - 1 in
    let ub : up ≤ m = omega arith in
    let db : down ≤ m = omega arith in
    let ib : i ≤ m = omega arith in
    let dx = after_den f g m i x w (some up ub) (some down db) (some i ib) in
    let dy = after_den f g m i y w (yd up ub) (yd down db) (yd i ib) in
    let ds = after_den f g m i sums w (mul-pos (some up ub) (yd up ub)) (mul-pos (some down db) (yd down db)) (mul-pos (some i ib) (yd i ib)) in
    let dones = after_den f g m i ones w (omega arith) (omega arith) (omega arith) in
    let a = after_step f g m x i in
    let first : AtMost (plus a (y i)) (plus a (after_step f g m y i)) =
    AtMost-plus a a (y i) (after_step f g m y i) (AtMost-refl a) (AtMost-same_back (after_step f g m y i) (y i) (fix_is_mean f g m j h b)) in
    let second : AtMost (plus a (after_step f g m y i)) (after_step f g m sums i) =
    AtMost-same (plus a (after_step f g m y i)) (after_step f g m sums i)
    (sums_of_means (step_up f g m i).num (step_down f g m i).num (step_stay f g m i).num (all_ways f g m i) (x up) (x down) (x i) (y up) (y down) (y i)) in
    let third : AtMost (after_step f g m sums i) (after_step f g m ones i) = after_step-mono f g m i sums ones (all up ub) (all down db) (all i ib) in
    let fourth : AtMost (after_step f g m ones i) (whole 1) = mean_of_ones (step_up f g m i).num (step_down f g m i).num (step_stay f g m i).num (all_ways f g m i) (ways f g m i b) in
    AtMost-trans (plus a (y i)) (plus a (after_step f g m y i)) (whole 1) (mul-pos dx dy) first
    (AtMost-trans (plus a (after_step f g m y i)) (after_step f g m sums i) (whole 1) ds second
    (AtMost-trans (after_step f g m sums i) (after_step f g m ones i) (whole 1) dones third fourth))

lost_inside : (f g : ℕ → ℕ) (m i : ℕ) (x : ℕ → Ratio) → AreFit f g m → i ≢ 0 → i ≢ m → i ≤ m → ((k : ℕ) → k ≤ m → 0 < (x k).den) → ((k : ℕ) → k ≤ m → AtMost (plus (x k) (fix f g m k)) (whole 1)) →
    AtMost (plus (after_step f g m x i) (fix f g m i)) (whole 1)
lost_inside f g m zero x h n e b some all = absurd (n refl)
lost_inside f g m (suc j) x h n e b some all = lost_step f g m j x h (omega arith) some all

pub lost_below : (f g : ℕ → ℕ) (m t i : ℕ) → AreFit f g m → 0 < m → i ≤ m → AtMost (plus (lost f g m t i) (fix f g m i)) (whole 1)
lost_below f g m zero i h p b =
    choose_sum (nat_eq i 0) (whole 1) (whole 0) (fix f g m i) (whole 1)
    (λ e. subst (λ k. AtMost (plus (whole 1) (fix f g m k)) (whole 1)) (sym (eqb-true i 0 e)) (record { cross = omega arith }))
    (λ e. let most = fix_most f g m i h b in record { cross = omega (arith, most.cross) })
lost_below f g m (suc t) i h p b =
    let x = lost f g m t in
    choose_sum (nat_eq i 0) (x i) (cond (nat_eq i m) (x i) (after_step f g m x i)) (fix f g m i) (whole 1)
    (λ e. lost_below f g m t i h p b)
    (λ e. choose_sum (nat_eq i m) (x i) (after_step f g m x i) (fix f g m i) (whole 1) (λ e'. lost_below f g m t i h p b)
    (λ e'. lost_inside f g m i x h (eqb-false i 0 e) (eqb-false i m e') b (λ k q. lost_den f g m t k h q) (λ k q. lost_below f g m t k h p q)))

pub from_mean : (f g : ℕ → ℕ) (m i : ℕ) → AreFit f g m → 0 < i → i < m → Same (after_step f g m (fix f g m) i) (fix f g m i)
from_mean f g m zero h p b = absurd (omega arith)
from_mean f g m (suc j) h p b = fix_is_mean f g m j h b

pub fixation_bounds_steps_lem : FixationBoundsSteps
fixation_bounds_steps_lem = record { won_most = won_below; lost_most = lost_below }
