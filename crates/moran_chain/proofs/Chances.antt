-- Chances in billionths, what they bound, and how wide they are.
use Rattle.std.proofs.Common.{ℕ, zero, suc, ◌+◌, ◌-◌, ◌*◌, ◌/◌, ◌^◌, ◌≡◌, ◌≤◌, ◌<◌, ap, arith, ◌⊎◌, inl, inr, refl}
use Rattle.std.proofs.Math.Nat.{mul-le-mul_left, mul-le-mul_right, mul-le-mul, mul-pos, mul-lt-mul_of_pos_right, lt_of_mul-lt-mul_right, eq_of_mul-eq-mul_right}
use Rattle.std.proofs.lemmas.Int.{ints}
use borrow.Author.Differences.{up, down}
use Rattle.fixed_span.specs.Span.{Ends, Fraction, Holds, chance_units}
use Rattle.scaled_span.specs.declared.numbers.ScaledSpan.{ScaledSpan}
use Rattle.scaled_span.specs.Ratios.{Ratio, AtMost, Same, whole}
use Rattle.scaled_span.specs.Values.{value, IsIn, EndsAreClose, IsFloorOf, IsCappedCeiling}
use Rattle.scaled_span.proofs.RatioLemmas.{cancel, AtMost-trans, AtMost-refl}
use Rattle.scaled_span.proofs.SpanLemmas.{value_den}
use Rattle.moran_chain.specs.declared.ranges.Ranges.{Ranges}
use Rattle.moran_chain.specs.declared.fixing.MoranVerdict.{MoranVerdict}
use Rattle.moran_chain.specs.declared.fixing.MoranVerdict.TheVariants.{Favoured, Opposed, Neutral, Undecided}
use Rattle.moran_chain.specs.Fitness.{Scores, AreHeld}
use Rattle.moran_chain.specs.Fixation.{HoldsFixation, HoldsFixationOf, billionths, chances, IsTrueVerdict}
use Rattle.moran_chain.specs.Moran.{plus, fix, won, lost, fraction_of, AreEqual, AreFit}
use Rattle.moran_chain.specs.Ranges.{Worths, AllLie, first_worth, second_worth}
use Rattle.moran_chain.proofs.ChainLemmas.{all_fit}
use Rattle.moran_chain.proofs.Differences.{of_itself, of_natural, of_times, of_equal}
use Rattle.moran_chain.proofs.Fitting.{IsRangeOf, worths, all_lie, is_fit, fix_is}
use Rattle.moran_chain.proofs.Scoring.{lies_of}
use Rattle.moran_chain.proofs.Solutions.{solutions_are_fixation_lem}
use Rattle.moran_chain.proofs.Steps.{AtMost-plus, fix_den, fix_most, won_below, lost_den, lost_below}

-- x lies between lo and hi billionths
record InBillionths (lo hi : ℕ) (x : Ratio) : Type 0 where
  low : lo * x.den ≤ 10 ^ 9 * x.num
  high : 10 ^ 9 * x.num ≤ hi * x.den

low_billionths : (l ln ld xn xd : ℕ) → 0 < ld → l * ld ≤ 10 ^ 9 * ln → ln * xd ≤ xn * ld → l * xd ≤ 10 ^ 9 * xn
low_billionths l ln ld xn xd p a b = cancel (l * xd) (10 ^ 9 * xn) ld p (omega (arith, mul-le-mul_right xd a, b))

high_billionths : (h hn hd xn xd : ℕ) → 0 < hd → 10 ^ 9 * hn ≤ h * hd → xn * hd ≤ hn * xd → 10 ^ 9 * xn ≤ h * xd
high_billionths h hn hd xn xd p a b = cancel (10 ^ 9 * xn) (h * xd) hd p (omega (arith, mul-le-mul_right xd a, b))

in_billionths : (s : ScaledSpan) (x : Ratio) (l h : ℕ) → IsFloorOf (10 ^ 9) (value s.lo) l → IsCappedCeiling (10 ^ 9) (value s.hi) h → IsIn s x → AtMost x (whole 1) → InBillionths l h x
in_billionths s x l h a b c d = record {
  low = low_billionths l (value s.lo).num (value s.lo).den x.num x.den (value_den s.lo) a.below c.low.cross;
  high = by_size (compare h (10 ^ 9));
}
  where
    compare : (m n : ℕ) → (m < n) ⊎ (n ≤ m)
    compare zero zero = inr (omega arith)
    compare zero (suc n) = inl (omega arith)
    compare (suc m) zero = inr (omega arith)
    compare (suc m) (suc n) = elim (compare m n) [ inl p ↦ inl (omega arith) | inr p ↦ inr (omega arith) ]

    by_size : (h < 10 ^ 9) ⊎ (10 ^ 9 ≤ h) → 10 ^ 9 * x.num ≤ h * x.den
    by_size (inl p) = high_billionths h (value s.hi).num (value s.hi).den x.num x.den (value_den s.hi) (b.enough p) c.high.cross
    by_size (inr p) = omega (arith, d.cross, mul-le-mul_right x.den p)

same_billionths : (lo hi : ℕ) (x y : Ratio) → 0 < y.den → Same x y → InBillionths lo hi y → InBillionths lo hi x
same_billionths lo hi x y p e h = record {
  low = cancel (lo * x.den) (10 ^ 9 * x.num) y.den p (omega (arith, mul-le-mul_right x.den h.low, e.cross));
  high = cancel (10 ^ 9 * x.num) (hi * x.den) y.den p (omega (arith, mul-le-mul_right x.den h.high, e.cross));
}

held_plain : (l h xp xq xd yn yd : ℕ) → 0 < yd → xp * yd ≡ xq * yd + yn * xd → l * yd ≤ 10 ^ 9 * yn → 10 ^ 9 * yn ≤ h * yd →
    (l * xd + 10 ^ 9 * xq ≤ 10 ^ 9 * xp) × (10 ^ 9 * xp ≤ h * xd + 10 ^ 9 * xq)
held_plain l h xp xq xd yn yd p e a b = (
  cancel (l * xd + 10 ^ 9 * xq) (10 ^ 9 * xp) yd p (omega (arith, e, mul-le-mul_right xd a)),
  cancel (10 ^ 9 * xp) (h * xd + 10 ^ 9 * xq) yd p (omega (arith, e, mul-le-mul_right xd b)),
)

-- a number of either sign that equals y
held : (lo hi : ℕ) (x : Fraction) (y : Ratio) → 0 < x.denominator → 0 < y.den → AreEqual x (fraction_of y) → InBillionths lo hi y → Holds chance_units (chances lo hi) x
held lo hi x y xp yp e h =
    let k = of_equal _ _ _ _ _ _ e (of_times y.den _ _ _ (of_itself x.numerator)) (of_times x.denominator _ _ _ (of_natural y.num)) in
    let both = held_plain lo hi (up x.numerator) (down x.numerator) x.denominator y.num y.den yp (omega (arith, k)) h.low h.high in
    record { above_zero = xp; low = omega (arith, ints, both.0); high = omega (arith, ints, both.1) }

fixation_of : (lo hi : ℕ) (f g : ℕ → ℕ) (m i : ℕ) → 0 < m → i < m → AreFit f g m → InBillionths lo hi (fix f g m i) → HoldsFixation lo hi f g m i
fixation_of lo hi f g m i p b h c =
    let y = fix f g m i in
    let yd = fix_den f g m i h p (omega arith) in
    record {
      fit = h;
      chance = record { above_zero = yd; low = omega (arith, ints, c.low); high = omega (arith, ints, c.high) };
      won_most = λ t. AtMost-trans (won f g m t i) y (billionths hi) yd (won_below f g m t i h p (omega arith)) (record { cross = omega (arith, c.high) });
      lost_most = λ t.
          let x = lost f g m t i in
          AtMost-trans (plus x (billionths lo)) (plus x y) (whole 1) (mul-pos (lost_den f g m t i h (omega arith)) yd)
          (AtMost-plus x x (billionths lo) y (AtMost-refl x) (record { cross = omega (arith, c.low) })) (lost_below f g m t i h p (omega arith));
      solutions = λ x s. held lo hi (x i) y (s.defined i (omega arith)) yd (solutions_are_fixation_lem f g m i x p h s (omega arith)) c;
    }

-- all scores that the spans hold
pub holds_fixation : (a b c d : Ends) (t : Ranges) (turns wn wd m i lo hi : ℕ) (r : ScaledSpan) (s : Scores) → 0 < turns → 0 < wd → 0 < i → i < m →
    IsRangeOf wn wd turns t.a a → IsRangeOf wn wd turns t.b b → IsRangeOf wn wd turns t.c c → IsRangeOf wn wd turns t.d d →
    ((v : Worths) → AllLie t v → IsIn r (fix (first_worth v m) (second_worth v m) m i)) →
    IsFloorOf (10 ^ 9) (value r.lo) lo → IsCappedCeiling (10 ^ 9) (value r.hi) hi → AreHeld a b c d s → HoldsFixationOf lo hi turns wn wd m i s
holds_fixation a b c d t turns wn wd m i lo hi r s some positive ip below ra rb rc rd inside fl ce h =
    let la = lies_of t.a a wn wd turns s.a ra.lo ra.hi h.of_a in
    let lb = lies_of t.b b wn wd turns s.b rb.lo rb.hi h.of_b in
    let lc = lies_of t.c c wn wd turns s.c rc.lo rc.hi h.of_c in
    let ld = lies_of t.d d wn wd turns s.d rd.lo rd.hi h.of_d in
    let v = worths wn wd turns m s t some positive la lb lc ld h.of_a.above_zero h.of_b.above_zero h.of_c.above_zero h.of_d.above_zero in
    let all = all_lie wn wd turns m s t some positive la lb lc ld h.of_a.above_zero h.of_b.above_zero h.of_c.above_zero h.of_d.above_zero in
    let x = fix (first_worth v m) (second_worth v m) m i in
    let fit = all_fit t v m all in
    let inner = in_billionths r x lo hi fl ce (inside v all) (fix_most (first_worth v m) (second_worth v m) m i fit (omega arith)) in
    fixation_of lo hi _ _ m i (omega arith) below
    (is_fit wn wd turns m s t some positive la lb lc ld h.of_a.above_zero h.of_b.above_zero h.of_c.above_zero h.of_d.above_zero)
    (same_billionths lo hi _ x (fix_den (first_worth v m) (second_worth v m) m i fit (omega arith) (omega arith))
    (fix_is wn wd turns m s t some positive la lb lc ld h.of_a.above_zero h.of_b.above_zero h.of_c.above_zero h.of_d.above_zero i (omega arith)) inner)

-- ---- the width
-- y w ≤ (x + 1) u + w, where w is u less n
width_plain : (l h ln ld hn hd u w : ℕ) → 0 < ld → 0 < hd → 10 ^ 9 * ln < (l + 1) * ld → h * hd < 10 ^ 9 * hn + hd → hn * w * ld ≤ ln * hd * u → h * w ≤ (l + 1) * u + w
width_plain l h ln ld hn hd u w lp hp a b c =
    let a' : 10 ^ 9 * ln ≤ (l + 1) * ld = omega arith in
    let b' : h * hd ≤ 10 ^ 9 * hn + hd = omega arith in
    cancel (h * w) ((l + 1) * u + w) (ld * hd) (mul-pos lp hp)
    (omega (arith, mul-le-mul_right (w * ld) b', c, mul-le-mul_right (hd * u) a'))

pub width_of : (s : ScaledSpan) (l h n : ℕ) → n ≤ 2 ^ 61 → EndsAreClose n s → IsFloorOf (10 ^ 9) (value s.lo) l → IsCappedCeiling (10 ^ 9) (value s.hi) h → h * 2 ^ 61 ≤ (l + 2) * 2 ^ 61 + 10 ^ 9 * n
width_of s l h n few t a b =
    let w = 2 ^ 61 - n in
    let e : w + n ≡ 2 ^ 61 = omega arith in
    let k = width_plain l h (value s.lo).num (value s.lo).den (value s.hi).num (value s.hi).den (2 ^ 61) w (value_den s.lo) (value_den s.hi) a.above b.least t.tight.close in
    omega (arith, k, ap (λ z. h * z) e, mul-le-mul_right n b.most)

-- points
pub point_width : (l h m : ℕ) → m ≤ 1000 → h * 2 ^ 61 ≤ (l + 2) * 2 ^ 61 + 10 ^ 9 * (m * (4 * 0 + 18) + 12) → h ≤ l + 2
point_width l h m few k = omega arith

-- others: the width of each score enters each of at most m ratios
pub span_width : (l h m wn : ℕ) → m ≤ 1000 → wn ≤ 100 → h * 2 ^ 61 ≤ (l + 2) * 2 ^ 61 + 10 ^ 9 * (m * (4 * (wn * 2305844) + 18) + 12) → h ≤ l + 2 + wn * m / 250
span_width l h m wn few some k =
    let all : wn * m ≤ 100 * 1000 = mul-le-mul some few in
    plain (wn * m) (wn * m / 250) (omega arith) (omega arith) (omega (arith, k))
  where
    plain : (x q : ℕ) → x ≤ 250 * q + 249 → q ≤ 400 → h * 2 ^ 61 ≤ (l + 2) * 2 ^ 61 + 10 ^ 9 * (x * 9223376 + m * 18 + 12) → h ≤ l + 2 + q
    plain x q rest small bound = omega arith

pub asked_width : (l h m wn : ℕ) → 2 ≤ m → h ≤ l + 2 + wn * m / 250 → h ≤ l + 4 + (wn * m * m + 99) / 100
asked_width l h m wn two k = let e : wn * m * 2 ≤ wn * m * m = mul-le-mul_left (wn * m) two in omega (arith, k, e)

pub parts_few : (m n : ℕ) → m ≤ 1000 → n ≤ 100 → m * (4 * (n * 2305844) + 18) + 12 ≤ 2 ^ 61
parts_few m n h k = let e : m * n ≤ 1000 * 100 = mul-le-mul h k in omega (arith, e)

-- ---- the verdict
above_plain : (k l n d m e : ℕ) → 0 < d → e * k < l * m → l * d ≤ k * n → e * d < n * m
above_plain k l n d m e p a b = lt_of_mul-lt-mul_right k (omega (arith, mul-lt-mul_of_pos_right a p, mul-le-mul_right m b))

below_plain : (k h n d m e : ℕ) → 0 < d → h * m < e * k → k * n ≤ h * d → n * m < e * d
below_plain k h n d m e p a b = lt_of_mul-lt-mul_right k (omega (arith, mul-lt-mul_of_pos_right a p, mul-le-mul_right m b))

even_plain : (k l h n d m e : ℕ) → 0 < k → l * m ≡ e * k → h * m ≡ e * k → l * d ≤ k * n → k * n ≤ h * d → n * m ≡ e * d
even_plain k l h n d m e p a b c f = eq_of_mul-eq-mul_right k p (n * m) (e * d) (omega (arith, ap (λ z. z * d) a, ap (λ z. z * d) b, mul-le-mul_right m c, mul-le-mul_right m f))

pub told_of : (v : MoranVerdict) (lo hi m i : ℕ) (x : Ratio) → (v ≡ Favoured → i * chance_units < lo * m) → (v ≡ Opposed → hi * m < i * chance_units) →
    (v ≡ Neutral → (lo * m ≡ i * chance_units) × (hi * m ≡ i * chance_units)) → Holds chance_units (chances lo hi) (fraction_of x) → IsTrueVerdict v x m i
told_of Favoured lo hi m i x a b c h = above_plain chance_units lo x.num x.den m i h.above_zero (a refl) (omega (arith, ints, h.low))
told_of Opposed lo hi m i x a b c h = below_plain chance_units hi x.num x.den m i h.above_zero (b refl) (omega (arith, ints, h.high))
told_of Neutral lo hi m i x a b c h = let e = c refl in even_plain chance_units lo hi x.num x.den m i (omega arith) e.0 e.1 (omega (arith, ints, h.low)) (omega (arith, ints, h.high))
told_of Undecided lo hi m i x a b c h = tt {0}
