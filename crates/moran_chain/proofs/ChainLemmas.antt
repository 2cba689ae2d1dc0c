-- Spans of the chain's numbers.
use Rattle.std.proofs.Common.{ℕ, zero, suc, ◌+◌, ◌-◌, ◌*◌, ◌^◌, ◌≡◌, ◌≤◌, ◌<◌, sym, ap, arith, subst}
use Rattle.std.proofs.Math.Nat.{mul-le-mul_right, mul-pos}
use Rattle.std.proofs.lemmas.Int.{ints}
use Rattle.scaled_span.specs.declared.numbers.Scaled.{Scaled}
use Rattle.scaled_span.specs.declared.numbers.ScaledSpan.{ScaledSpan}
use Rattle.scaled_span.specs.Ratios.{Ratio, AtMost, Same, whole, times, over, plus_one, share_of}
use Rattle.scaled_span.specs.Values.{value, IsIn, ExponentsWithin, IsBelow, EndsAreClose}
use Rattle.scaled_span.proofs.RatioLemmas.{IsClose-more, AtMost-trans, AtMost-same, AtMost-same_back}
use Rattle.scaled_span.proofs.SpanLemmas.{value_den}
use Rattle.moran_chain.specs.Moran.{odds, AreFit}
use Rattle.moran_chain.specs.declared.ranges.Range.{Range}
use Rattle.moran_chain.specs.declared.ranges.Ranges.{Ranges}
use Rattle.moran_chain.specs.Ranges.{Worths, Lies, AllLie, first_worth, second_worth, nested, stretch}

-- whole ends around p j + q k over den
pub both_holds : (r : ScaledSpan) (lo hi xl xh yl yh p q den j k : ℕ) → lo ≡ xl * j + yl * k → hi ≡ xh * j + yh * k →
    ((x : Ratio) → AtMost (whole lo) x → AtMost x (whole hi) → IsIn r x) →
    xl * den ≤ p → p ≤ xh * den → yl * den ≤ q → q ≤ yh * den → IsIn r (record { num = p * j + q * k; den = den })
both_holds r lo hi xl xh yl yh p q den j k el eh inside a b c d =
    inside (record { num = p * j + q * k; den = den })
    (record { cross = omega (arith, ap (λ z. z * den) el, mul-le-mul_right j a, mul-le-mul_right k c) })
    (record { cross = omega (arith, ap (λ z. z * den) eh, mul-le-mul_right j b, mul-le-mul_right k d) })

both_known : (xl xh yl yh j k w u : ℕ) → xh * w ≤ xl * u → yh * w ≤ yl * u → (xh * j + yh * k) * w ≤ (xl * j + yl * k) * u
both_known xl xh yl yh j k w u a b = omega (arith, mul-le-mul_right j a, mul-le-mul_right k b)

pub both_tight : (n lo hi xl xh yl yh j k : ℕ) → lo ≡ xl * j + yl * k → hi ≡ xh * j + yh * k →
    xh * (2 ^ 61 - n) ≤ xl * 2 ^ 61 → yh * (2 ^ 61 - n) ≤ yl * 2 ^ 61 → hi * (2 ^ 61 - n) ≤ lo * 2 ^ 61
both_tight n lo hi xl xh yl yh j k el eh a b = let e = both_known xl xh yl yh j k (2 ^ 61 - n) (2 ^ 61) a b in rw (el, eh) e

pub IsIn-same : (s : ScaledSpan) (x y : Ratio) → 0 < x.den → Same x y → IsIn s x → IsIn s y
IsIn-same s x y p e h = record {
  low = AtMost-trans (value s.lo) x y p h.low (AtMost-same x y e);
  high = AtMost-trans y x (value s.hi) p (AtMost-same_back x y e) h.high;
}

-- the common denominator and unit drop out of a ratio
pub ratio_holds : (a b r : ScaledSpan) (g f gu fu q u : ℕ) → 0 < q → 0 < f → 0 < u → gu ≡ g * u → fu ≡ f * u →
    ((x y : Ratio) → IsIn a x → IsIn b y → IsIn r (over x y)) →
    IsIn a (record { num = gu; den = q }) → IsIn b (record { num = fu; den = q }) → IsIn r (record { num = g; den = f })
ratio_holds a b r g f gu fu q u qp fp up eg ef div p s =
    let x : Ratio = record { num = gu; den = q } in
    let y : Ratio = record { num = fu; den = q } in
    let fup : 0 < fu = let z : 0 < f * u = mul-pos fp up in omega arith in
    IsIn-same r (over x y) (record { num = g; den = f }) (mul-pos qp fup) (record { cross = omega (arith, ap (λ z. z * q * f) eg, ap (λ z. g * q * z) ef) }) (div x y p s)

some_left : (x u : ℕ) → 0 < x * u → 0 < x
some_left zero u h = absurd (omega arith)
some_left (suc x) u h = omega arith

pub lies_some : (r : Range) (x den unit : ℕ) → 0 < den → Lies r x den unit → 0 < x
lies_some r x den unit dp h = let lp : 0 < r.lo = r.some in let p : 0 < r.lo * den = mul-pos lp dp in some_left x unit (omega (arith, h.low))

pub all_fit : (t : Ranges) (v : Worths) (m : ℕ) → AllLie t v → AreFit (first_worth v m) (second_worth v m) m
all_fit t v m h = record {
  first = λ i some below. let k : 0 < m - i = omega arith in let p : 0 < v.b * (m - i) = mul-pos (lies_some t.b v.b v.den v.unit h.some h.b) k in omega arith;
  second = λ i some below. let p : 0 < v.c * i = mul-pos (lies_some t.c v.c v.den v.unit h.some h.c) some in omega arith;
}

pub tight_as : (n m : ℕ) (r : ScaledSpan) → n ≡ m → EndsAreClose n r → EndsAreClose m r
tight_as n m r e h = subst (λ k. EndsAreClose k r) e h

pub exponents_as : (n m : ℕ) (r : ScaledSpan) → n ≤ m → ExponentsWithin n r → ExponentsWithin m r
exponents_as n m r e h = record { lo = record { low = omega (arith, ints); high = omega (arith, ints) }; hi = record { low = omega (arith, ints); high = omega (arith, ints) } }

-- ---- the number 1
pub one_holds : (r : ScaledSpan) → ((x : Ratio) → AtMost (whole 1) x → AtMost x (whole 1) → IsIn r x) → IsIn r (whole 1)
one_holds r h = h (whole 1) (record { cross = omega arith }) (record { cross = omega arith })

pub one_tight : (r : ScaledSpan) → ((n : ℕ) → 1 * (2 ^ 61 - n) ≤ 1 * 2 ^ 61 → EndsAreClose (n + 2) r) → EndsAreClose 2 r
one_tight r h = h 0 (omega arith)

-- ---- one step of the nested sum and of the product
pub nested_step : (f g : ℕ → ℕ) (j i n m : ℕ) (a s p r : ScaledSpan) → i ≡ suc j → m ≡ suc n →
    ((x y : Ratio) → IsIn a x → IsIn s y → IsIn p (times x y)) → ((x : Ratio) → IsIn p x → IsIn r (plus_one x)) →
    IsIn a (odds f g i) → IsIn s (nested f g i n) → IsIn r (nested f g j m)
nested_step f g j i n m a s p r ei e mul add h k =
    let h' : IsIn a (odds f g (suc j)) = subst (λ z. IsIn a (odds f g z)) ei h in
    let k' : IsIn s (nested f g (suc j) n) = subst (λ z. IsIn s (nested f g z n)) ei k in
    let all : IsIn r (nested f g j (suc n)) = add (times (odds f g (suc j)) (nested f g (suc j) n)) (mul (odds f g (suc j)) (nested f g (suc j) n) h' k') in
    subst (λ z. IsIn r (nested f g j z)) (sym e) all

pub stretch_step : (f g : ℕ → ℕ) (j i n m : ℕ) (a s r : ScaledSpan) → i ≡ suc j → m ≡ suc n →
    ((x y : Ratio) → IsIn a x → IsIn s y → IsIn r (times x y)) →
    IsIn a (odds f g i) → IsIn s (stretch f g i n) → IsIn r (stretch f g j m)
stretch_step f g j i n m a s r ei e mul h k =
    let h' : IsIn a (odds f g (suc j)) = subst (λ z. IsIn a (odds f g z)) ei h in
    let k' : IsIn s (stretch f g (suc j) n) = subst (λ z. IsIn s (stretch f g z n)) ei k in
    let all : IsIn r (stretch f g j (suc n)) = mul (odds f g (suc j)) (stretch f g (suc j) n) h' k' in
    subst (λ z. IsIn r (stretch f g j z)) (sym e) all

pub first_stretch : (f g : ℕ → ℕ) (j i : ℕ) (r : ScaledSpan) → i ≡ suc j → IsIn r (odds f g i) → IsIn r (stretch f g j 0)
first_stretch f g j i r e h = subst (λ z. IsIn r (odds f g z)) e h

pub tight_more : (n m : ℕ) (r : ScaledSpan) → n ≤ m → EndsAreClose n r → EndsAreClose m r
tight_more n m r e h = record { tight = IsClose-more (2 ^ 61) n m (value r.lo) (value r.hi) e h.tight }

-- how many parts all operations lead to
pub count : (n p q i m : ℕ) → i ≡ suc p → suc (i + q) ≡ m → ((2 * n + 10) * p + 2) + ((2 * n + 8) * i + ((2 * n + 10) * q + 2) + 2) + 2 + 2 ≤ m * (4 * n + 18) + 12
count n p q i m ei em = omega (arith, ap (λ z. n * z) ei, ap (λ z. n * z) em)

pub share_below : (t r : Scaled) → IsBelow 1 r (share_of (value t)) → AtMost (value r) (whole 1)
share_below t r h =
    let d : 0 < (value t).den = value_den t in
    AtMost-trans (value r) (share_of (value t)) (whole 1) (omega arith) h.below (record { cross = omega arith })
