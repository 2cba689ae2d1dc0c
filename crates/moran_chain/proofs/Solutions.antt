-- The chances of fixation are a solution of the equations of the process, and the only one.
use Rattle.std.proofs.Common.{ℕ, zero, suc, ◌+◌, ◌-◌, ◌*◌, ◌≡◌, ◌≤◌, ◌<◌, pos, ap, arith, add-one}
use Rattle.std.proofs.Math.Nat.{mul-pos, eq_of_mul-eq-mul_right}
use borrow.Author.Differences.{up, down}
use Rattle.fixed_span.specs.Span.{Fraction}
use Rattle.scaled_span.specs.Ratios.{Ratio, whole, times}
use Rattle.moran_chain.specs.Moran.{plus, product_to, sum_to, fraction_of, AreEqual, AreFit, IsSolution, all_ways, step_up, step_down, step_stay, signed_plus, signed_times, FixationSolves, SolutionsAreFixation}
use Rattle.moran_chain.proofs.Process.{sum_den}
use Rattle.moran_chain.proofs.Steps.{fix_den, from_mean, ways, ways_some}
use Rattle.moran_chain.proofs.Differences.{of_itself, of_natural, of_sum, of_part, of_times, of_equal, equal_of}

-- ---- the chances are a solution
pub fixation_solves_lem : FixationSolves
fixation_solves_lem f g m p h = record {
  defined = λ i b. fix_den f g m i h p b;
  none = ap pos (none_plain (sum_to f g m).den (sum_to f g m).num);
  all = ap pos (all_plain (sum_to f g m).num (sum_to f g m).den);
  between = λ i q b. ap pos (from_mean f g m i h q b).cross;
}
  where
    none_plain : (d n : ℕ) → 0 * d * 1 ≡ 0 * (1 * n)
    none_plain d n = omega arith

    all_plain : (n d : ℕ) → n * d * 1 ≡ 1 * (d * n)
    all_plain n d = omega arith

-- ---- fractions of either sign: (plus - minus) / den
record Split : Type 0 where
  plus : ℕ
  minus : ℕ
  den : ℕ

abbrev split : Fraction → Split
split x = record { plus = up x.numerator; minus = down x.numerator; den = x.denominator }

record AreAlike (x y : Split) : Type 0 where
  cross : x.plus * y.den + y.minus * x.den ≡ x.minus * y.den + y.plus * x.den

-- r times w
abbrev grown : Ratio → Split → Split
grown r w = record { plus = r.num * w.plus; minus = r.num * w.minus; den = r.den * w.den }

-- f x + g y = (f + g) z, with cleared denominators
record Balanced (f g : ℕ) (x y z : Split) : Type 0 where
  weights :
      f * x.plus * y.den * z.den + g * y.plus * x.den * z.den + (f + g) * z.minus * x.den * y.den
      ≡ f * x.minus * y.den * z.den + g * y.minus * x.den * z.den + (f + g) * z.plus * x.den * y.den

mean_plain : (u d s t xp xq xd yp yq yd zp zq zd : ℕ) → 0 < t → 0 < zd → t ≡ u + d + s →
    ((u * xp * (t * yd) + d * yp * (t * xd)) * (t * zd) + s * zp * (t * xd * (t * yd))) * zd + zq * (t * xd * (t * yd) * (t * zd))
    ≡ ((u * xq * (t * yd) + d * yq * (t * xd)) * (t * zd) + s * zq * (t * xd * (t * yd))) * zd + zp * (t * xd * (t * yd) * (t * zd)) →
    u * xp * yd * zd + d * yp * xd * zd + (u + d) * zq * xd * yd ≡ u * xq * yd * zd + d * yq * xd * zd + (u + d) * zp * xd * yd
mean_plain u d s t xp xq xd yp yq yd zp zq zd tp zp0 e h =
    let left = u * xp * yd * zd + d * yp * xd * zd + s * zp * xd * yd + t * zq * xd * yd in
    let right = u * xq * yd * zd + d * yq * xd * zd + s * zq * xd * yd + t * zp * xd * yd in
    let k : left * (t * t * zd) ≡ right * (t * t * zd) = omega (arith, h) in
    let q : left ≡ right = eq_of_mul-eq-mul_right (t * t * zd) (mul-pos (mul-pos tp tp) zp0) left right k in
    omega (arith, q, ap (λ w. w * zq * xd * yd) e, ap (λ w. w * zp * xd * yd) e)

ways_cancel : (f g i r xp xq xd yp yq yd zp zq zd : ℕ) → 0 < i → 0 < r →
    i * f * r * xp * yd * zd + r * g * i * yp * xd * zd + (i * f * r + r * g * i) * zq * xd * yd
    ≡ i * f * r * xq * yd * zd + r * g * i * yq * xd * zd + (i * f * r + r * g * i) * zp * xd * yd →
    f * xp * yd * zd + g * yp * xd * zd + (f + g) * zq * xd * yd ≡ f * xq * yd * zd + g * yq * xd * zd + (f + g) * zp * xd * yd
ways_cancel f g i r xp xq xd yp yq yd zp zq zd ip rp h =
    eq_of_mul-eq-mul_right (i * r) (mul-pos ip rp) (f * xp * yd * zd + g * yp * xd * zd + (f + g) * zq * xd * yd) (f * xq * yd * zd + g * yq * xd * zd + (f + g) * zp * xd * yd) (omega (arith, h))

-- the equation of a step, as one of differences
mean_parts : (u d s t : ℕ) (x y z : Fraction) →
    AreEqual (signed_plus (signed_plus (signed_times (record { num = u; den = t }) x) (signed_times (record { num = d; den = t }) y)) (signed_times (record { num = s; den = t }) z)) z →
    ((u * up x.numerator * (t * y.denominator) + d * up y.numerator * (t * x.denominator)) * (t * z.denominator) + s * up z.numerator * (t * x.denominator * (t * y.denominator))) * z.denominator
    + down z.numerator * (t * x.denominator * (t * y.denominator) * (t * z.denominator))
    ≡ ((u * down x.numerator * (t * y.denominator) + d * down y.numerator * (t * x.denominator)) * (t * z.denominator) + s * down z.numerator * (t * x.denominator * (t * y.denominator))) * z.denominator
    + up z.numerator * (t * x.denominator * (t * y.denominator) * (t * z.denominator))
mean_parts u d s t x y z h =
    let xd = t * x.denominator in
    let yd = t * y.denominator in
    let zd = t * z.denominator in
    let first = of_times yd _ _ _ (of_part u _ _ _ (of_itself x.numerator)) in
    let second = of_times xd _ _ _ (of_part d _ _ _ (of_itself y.numerator)) in
    let third = of_times (xd * yd) _ _ _ (of_part s _ _ _ (of_itself z.numerator)) in
    let both = of_times zd _ _ _ (of_sum _ _ _ _ _ _ first second) in
    let all = of_times z.denominator _ _ _ (of_sum _ _ _ _ _ _ both third) in
    of_equal _ _ _ _ _ _ h all (of_times (xd * yd * zd) _ _ _ (of_itself z.numerator))

balanced_of : (f g : ℕ → ℕ) (m i : ℕ) (x y z : Fraction) → AreFit f g m → 0 < i → i < m → 0 < z.denominator →
    AreEqual (signed_plus (signed_plus (signed_times (step_up f g m i) x) (signed_times (step_down f g m i) y)) (signed_times (step_stay f g m i) z)) z → Balanced (f i) (g i) (split x) (split y) (split z)
balanced_of f g m i x y z h p b zp e =
    let u = (step_up f g m i).num in
    let d = (step_down f g m i).num in
    let s = (step_stay f g m i).num in
    let t = all_ways f g m i in
    record {
      weights = ways_cancel (f i) (g i) i (m - i) (up x.numerator) (down x.numerator) x.denominator (up y.numerator) (down y.numerator) y.denominator (up z.numerator) (down z.numerator) z.denominator p (omega arith)
          (mean_plain u d s t (up x.numerator) (down x.numerator) x.denominator (up y.numerator) (down y.numerator) y.denominator (up z.numerator) (down z.numerator) z.denominator
          (ways_some f g m i h p b) zp (ways f g m i b) (mean_parts u d s t x y z e));
    }

-- S(j), S(j + 1), S(j + 2), each times w
sums_plain : (sn sd pn pd f g w e : ℕ) →
    f * (((sn * pd + pn * sd) * (pd * f) + pn * g * (sd * pd)) * w) * (sd * e) * (sd * pd * e) + g * (sn * w) * (sd * pd * (pd * f) * e) * (sd * pd * e)
    ≡ (f + g) * ((sn * pd + pn * sd) * w) * (sd * pd * (pd * f) * e) * (sd * e)
sums_plain sn sd pn pd f g w e = omega arith

sums_balanced : (s p : Ratio) (w : Split) (f g : ℕ) → Balanced f g (grown (plus (plus s p) (times p (record { num = g; den = f }))) w) (grown s w) (grown (plus s p) w)
sums_balanced s p w f g = record { weights = omega (arith, sums_plain s.num s.den p.num p.den f g w.plus w.den, sums_plain s.num s.den p.num p.den f g w.minus w.den) }

balanced_second : (f g : ℕ) (x y v z : Split) → 0 < y.den → AreAlike y v → Balanced f g x y z → Balanced f g x v z
balanced_second f g x y v z yp e h = record {
  weights = eq_of_mul-eq-mul_right y.den yp (f * x.plus * v.den * z.den + g * v.plus * x.den * z.den + (f + g) * z.minus * x.den * v.den)
      (f * x.minus * v.den * z.den + g * v.minus * x.den * z.den + (f + g) * z.plus * x.den * v.den)
      (omega (arith, ap (λ k. k * v.den) h.weights, ap (λ k. g * x.den * z.den * k) e.cross));
}

balanced_third : (f g : ℕ) (x y z v : Split) → 0 < z.den → AreAlike z v → Balanced f g x y z → Balanced f g x y v
balanced_third f g x y z v zp e h = record {
  weights = eq_of_mul-eq-mul_right z.den zp (f * x.plus * y.den * v.den + g * y.plus * x.den * v.den + (f + g) * v.minus * x.den * y.den)
      (f * x.minus * y.den * v.den + g * y.minus * x.den * v.den + (f + g) * v.plus * x.den * y.den)
      (omega (arith, ap (λ k. k * v.den) h.weights, ap (λ k. (f + g) * x.den * y.den * k) e.cross));
}

balanced_one : (f g : ℕ) (x v y z : Split) → 0 < f → 0 < y.den → 0 < z.den → Balanced f g x y z → Balanced f g v y z → AreAlike x v
balanced_one f g x v y z fp yp zp h k = record {
  cross = eq_of_mul-eq-mul_right (f * (y.den * z.den)) (mul-pos fp (mul-pos yp zp)) (x.plus * v.den + v.minus * x.den) (x.minus * v.den + v.plus * x.den)
      (omega (arith, ap (λ w. w * v.den) h.weights, ap (λ w. w * x.den) k.weights));
}

-- ---- each x is S times the first
next : (f g : ℕ → ℕ) (m j : ℕ) (x : ℕ → Fraction) → AreFit f g m → IsSolution f g m x → suc j < m →
    AreAlike (split (x j)) (grown (sum_to f g j) (split (x 1))) → AreAlike (split (x (suc j))) (grown (sum_to f g (suc j)) (split (x 1))) →
    AreAlike (split (x (suc (suc j)))) (grown (sum_to f g (suc (suc j))) (split (x 1)))
next f g m j x h s b e0 e1 =
    let i = suc j in
    let w = split (x 1) in
    let before : i - 1 ≡ j = omega arith in
    let after : i + 1 ≡ suc i = add-one i in
    let mean : AreEqual (signed_plus (signed_plus (signed_times (step_up f g m i) (x (suc i))) (signed_times (step_down f g m i) (x j))) (signed_times (step_stay f g m i) (x i))) (x i) = rw (before, after) at (s.between i (omega arith) b) in
    let first = balanced_of f g m i (x (suc i)) (x j) (x i) h (omega arith) b (s.defined i (omega arith)) mean in
    let sj = grown (sum_to f g j) w in
    let si = grown (sum_to f g i) w in
    let third = balanced_third (f i) (g i) (split (x (suc i))) sj (split (x i)) si (s.defined i (omega arith)) e1
    (balanced_second (f i) (g i) (split (x (suc i))) (split (x j)) sj (split (x i)) (s.defined j (omega arith)) e0 first) in
    let wd : 0 < w.den = s.defined 1 (omega arith) in
    balanced_one (f i) (g i) (split (x (suc i))) (grown (sum_to f g (suc i)) w) sj si (h.first i (omega arith) b) (mul-pos (sum_den f g m j h (omega arith)) wd) (mul-pos (sum_den f g m i h (omega arith)) wd)
    third (sums_balanced (sum_to f g j) (product_to f g j) w (f i) (g i))

at_zero : (x w : Fraction) → AreEqual x (fraction_of (whole 0)) → AreAlike (split x) (grown (whole 0) (split w))
at_zero x w e =
    let k = of_equal _ _ _ _ _ _ e (of_times 1 _ _ _ (of_itself x.numerator)) (of_times x.denominator _ _ _ (of_natural 0)) in
    record { cross = omega (arith, ap (λ z. z * w.denominator) k) }

at_one : (w : Split) → AreAlike w (grown (plus (whole 0) (whole 1)) w)
at_one w = record { cross = omega arith }

pair : (f g : ℕ → ℕ) (m j : ℕ) (x : ℕ → Fraction) → AreFit f g m → IsSolution f g m x → suc j ≤ m →
    AreAlike (split (x j)) (grown (sum_to f g j) (split (x 1))) × AreAlike (split (x (suc j))) (grown (sum_to f g (suc j)) (split (x 1)))
pair f g m zero x h s b = (at_zero (x 0) (x 1) s.none, at_one (split (x 1)))
pair f g m (suc j) x h s b = let p = pair f g m j x h s (omega arith) in (p.1, next f g m j x h s b p.0 p.1)

each : (f g : ℕ → ℕ) (m i : ℕ) (x : ℕ → Fraction) → 0 < m → AreFit f g m → IsSolution f g m x → i ≤ m → AreAlike (split (x i)) (grown (sum_to f g i) (split (x 1)))
each f g m zero x p h s b = (pair f g m 0 x h s (omega arith)).0
each f g m (suc i) x p h s b = (pair f g m i x h s b).1

-- s w = 1 / t of s, where t w = 1
last_plain : (xp xq xd lp lq ld sn sd tn td wp wq wd : ℕ) → 0 < wd → 0 < ld → lp ≡ lq + ld →
    lp * (td * wd) + tn * wq * ld ≡ lq * (td * wd) + tn * wp * ld → xp * (sd * wd) + sn * wq * xd ≡ xq * (sd * wd) + sn * wp * xd →
    xp * (sd * tn) ≡ xq * (sd * tn) + sn * td * xd
last_plain xp xq xd lp lq ld sn sd tn td wp wq wd wpos lpos one end here =
    let t : tn * wp ≡ tn * wq + td * wd = eq_of_mul-eq-mul_right ld lpos (tn * wp) (tn * wq + td * wd) (omega (arith, end, ap (λ z. z * (td * wd)) one)) in
    eq_of_mul-eq-mul_right wd wpos (xp * (sd * tn)) (xq * (sd * tn) + sn * td * xd) (omega (arith, ap (λ z. z * tn) here, ap (λ z. sn * xd * z) t))

pub solutions_are_fixation_lem : SolutionsAreFixation
solutions_are_fixation_lem f g m i x p h s b =
    let w = split (x 1) in
    let t = sum_to f g m in
    let si = sum_to f g i in
    let l = x m in
    let y = x i in
    let one = of_equal _ _ _ _ _ _ s.all (of_times 1 _ _ _ (of_itself l.numerator)) (of_times l.denominator _ _ _ (of_natural 1)) in
    let plain = last_plain (up y.numerator) (down y.numerator) y.denominator (up l.numerator) (down l.numerator) l.denominator si.num si.den t.num t.den w.plus w.minus w.den
    (s.defined 1 (omega arith)) (s.defined m (omega arith)) (omega (arith, one)) (each f g m m x p h s (omega arith)).cross (each f g m i x p h s b).cross in
    equal_of _ _ _ _ _ _ (omega (arith, plain)) (of_times (si.den * t.num) _ _ _ (of_itself y.numerator)) (of_times y.denominator _ _ _ (of_natural (si.num * t.den)))
