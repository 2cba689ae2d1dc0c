-- Weighted sums, their floors and ceilings, and what a mix holds.
use Rattle.std.proofs.Common.{ℕ, suc, ◌+◌, ◌*◌, ◌≡◌, ◌<◌, ℤ, pos, ◌+ℤ◌, ◌*ℤ◌, ◌≤ℤ◌, ◌<ℤ◌, List, [], ◌∷◌, length, get_or, sum, sym, ap, ◌∙◌, arith}
use Rattle.std.specs.List.{All}
use Rattle.std.proofs.lemmas.Int.{ints}
use Rattle.std.proofs.Math.Nat.{mul-pos}
use Rattle.fixed_span.specs.Span.{Ends, over, add, Holds, IsWithin}
use Rattle.fixed_span.specs.Mix.{IsFloor, IsCeiling, weighted, lows, highs, AllHold, sum_of_four}
use Rattle.fixed_span.proofs.Signed.{*ℤ-+ℤ, +ℤ-*ℤ, *ℤ_assoc, *ℤ-le, *ℤ-le_left, *ℤ-lt_back}

-- ---- raised sums

-- a term of a raised end
raised_term : (w x m : ℕ) (a : ℤ) → pos x ≡ a +ℤ pos m → pos (w * x) ≡ pos w *ℤ a +ℤ pos (w * m)
raised_term w x m a e = let k = ap (λ z. pos w *ℤ z) e in omega (arith, ints, k, *ℤ-+ℤ (pos w) a (pos m))

-- the sum of raised ends is raised by q times as much
pub raised_sum : (w0 w1 w2 w3 q x y z t m : ℕ) (a b c d : ℤ) → w0 + w1 + w2 + w3 ≡ q
    → pos x ≡ a +ℤ pos m → pos y ≡ b +ℤ pos m → pos z ≡ c +ℤ pos m → pos t ≡ d +ℤ pos m
    → pos (w0 * x + w1 * y + w2 * z + w3 * t) ≡ sum_of_four w0 w1 w2 w3 a b c d +ℤ pos (q * m)
raised_sum w0 w1 w2 w3 q x y z t m a b c d total ex ey ez et =
    omega (arith, ints, raised_term w0 x m a ex, raised_term w1 y m b ey, raised_term w2 z m c ez, raised_term w3 t m d et, ap (λ k. k * m) total)

pub floor_lowered : (x y r : ℤ) (q m : ℕ) → x ≡ y +ℤ pos (q * m) → IsFloor x q (r +ℤ pos m) → IsFloor y q r
floor_lowered x y r q m e f = let k = +ℤ-*ℤ r (pos m) (pos q) in record { below = omega (arith, ints, e, k, f.below); above = omega (arith, ints, e, k, f.above) }

pub ceiling_lowered : (x y r : ℤ) (q m : ℕ) → x ≡ y +ℤ pos (q * m) → IsCeiling x q (r +ℤ pos m) → IsCeiling y q r
ceiling_lowered x y r q m e f = let k = +ℤ-*ℤ r (pos m) (pos q) in record { above = omega (arith, ints, e, k, f.above); below = omega (arith, ints, e, k, f.below) }

-- ---- arrays

pub low_sum_is : (ws : List ℕ) (ss : List Ends) (a b c d : Ends) → length ws ≡ 4 → length ss ≡ 4
    → sum_of_four (get_or ws 0 0) (get_or ws 1 0) (get_or ws 2 0) (get_or ws 3 0) (get_or ss 0 a).lo (get_or ss 1 b).lo (get_or ss 2 c).lo (get_or ss 3 d).lo ≡ weighted ws (lows ss)
low_sum_is (w0 ∷ w1 ∷ w2 ∷ w3 ∷ []) (s0 ∷ s1 ∷ s2 ∷ s3 ∷ []) a b c d lw ls = omega (arith, ints)
low_sum_is ws ss a b c d lw ls = absurd (omega arith)

pub high_sum_is : (ws : List ℕ) (ss : List Ends) (a b c d : Ends) → length ws ≡ 4 → length ss ≡ 4
    → sum_of_four (get_or ws 0 0) (get_or ws 1 0) (get_or ws 2 0) (get_or ws 3 0) (get_or ss 0 a).hi (get_or ss 1 b).hi (get_or ss 2 c).hi (get_or ss 3 d).hi ≡ weighted ws (highs ss)
high_sum_is (w0 ∷ w1 ∷ w2 ∷ w3 ∷ []) (s0 ∷ s1 ∷ s2 ∷ s3 ∷ []) a b c d lw ls = omega (arith, ints)
high_sum_is ws ss a b c d lw ls = absurd (omega arith)

-- ---- what a mix holds

-- a term of a mean: the units may stand in front of the weight
swapped : (units w : ℕ) (x : ℤ) → pos units *ℤ (pos w *ℤ x) ≡ pos w *ℤ (pos units *ℤ x)
swapped units w x = let e = *ℤ_assoc (pos units) (pos w) x in let f = *ℤ_assoc (pos w) (pos units) x in let g : pos units *ℤ pos w ≡ pos w *ℤ pos units = omega (arith, ints) in sym e ∙ ap (λ z. z *ℤ x) g ∙ f

pub low_mean : (units : ℕ) (ws : List ℕ) (ss : List Ends) (xs : List ℤ) (d : ℕ) → AllHold units ss xs d → (weighted ws (lows ss) *ℤ pos d) ≤ℤ (pos units *ℤ weighted ws xs)
low_mean units [] ss xs d h = omega (arith, ints)
low_mean units (w ∷ ws) [] [] d h = omega (arith, ints)
low_mean units (w ∷ ws) [] (x ∷ xs) d h = absurd h
low_mean units (w ∷ ws) (s ∷ ss) [] d h = absurd h
low_mean units (w ∷ ws) (s ∷ ss) (x ∷ xs) d h =
    let first = *ℤ-le_left (s.lo *ℤ pos d) (pos units *ℤ x) w h.0.low in
    let more = low_mean units ws ss xs d h.1 in
    let left = +ℤ-*ℤ (pos w *ℤ s.lo) (weighted ws (lows ss)) (pos d) in
    let right = *ℤ-+ℤ (pos units) (pos w *ℤ x) (weighted ws xs) in
    omega (arith, ints, first, more, left, right, *ℤ_assoc (pos w) s.lo (pos d), swapped units w x)

pub high_mean : (units : ℕ) (ws : List ℕ) (ss : List Ends) (xs : List ℤ) (d : ℕ) → AllHold units ss xs d → (pos units *ℤ weighted ws xs) ≤ℤ (weighted ws (highs ss) *ℤ pos d)
high_mean units [] ss xs d h = omega (arith, ints)
high_mean units (w ∷ ws) [] [] d h = omega (arith, ints)
high_mean units (w ∷ ws) [] (x ∷ xs) d h = absurd h
high_mean units (w ∷ ws) (s ∷ ss) [] d h = absurd h
high_mean units (w ∷ ws) (s ∷ ss) (x ∷ xs) d h =
    let first = *ℤ-le_left (pos units *ℤ x) (s.hi *ℤ pos d) w h.0.high in
    let more = high_mean units ws ss xs d h.1 in
    let left = +ℤ-*ℤ (pos w *ℤ s.hi) (weighted ws (highs ss)) (pos d) in
    let right = *ℤ-+ℤ (pos units) (pos w *ℤ x) (weighted ws xs) in
    omega (arith, ints, first, more, left, right, *ℤ_assoc (pos w) s.hi (pos d), swapped units w x)

-- an end times q * d
end_times : (r : ℤ) (q d : ℕ) → r *ℤ pos (q * d) ≡ (r *ℤ pos q) *ℤ pos d
end_times r q d = let e : pos (q * d) ≡ pos q *ℤ pos d = omega (arith, ints) in ap (λ z. r *ℤ z) e ∙ sym (*ℤ_assoc r (pos q) (pos d))

-- where there is a span, the denominator is above 0
some_parts : (units : ℕ) (ss : List Ends) (xs : List ℤ) (d : ℕ) → 0 < length ss → AllHold units ss xs d → 0 < d
some_parts units [] xs d some h = absurd (omega (arith, some))
some_parts units (s ∷ ss) [] d some h = absurd h
some_parts units (s ∷ ss) (x ∷ xs) d some h = h.0.above_zero

pub mix_holds : (units : ℕ) (ws : List ℕ) (ss : List Ends) (xs : List ℤ) (d q : ℕ) (r : Ends) → 0 < q → 0 < length ss → IsFloor (weighted ws (lows ss)) q r.lo → IsCeiling (weighted ws (highs ss)) q r.hi
    → AllHold units ss xs d → Holds units r (over (weighted ws xs) (q * d))
mix_holds units ws ss xs d q r positive some f g h =
    let below = *ℤ-le (r.lo *ℤ pos q) (weighted ws (lows ss)) d f.below in
    let above = *ℤ-le (weighted ws (highs ss)) (r.hi *ℤ pos q) d g.above in
    record {
      above_zero = mul-pos positive (some_parts units ss xs d some h);
      low = omega (arith, ints, end_times r.lo q d, below, low_mean units ws ss xs d h);
      high = omega (arith, ints, end_times r.hi q d, above, high_mean units ws ss xs d h);
    }

-- ---- how wide a mix is

abbrev total_of : List ℕ → ℕ
total_of [] = 0
total_of (w ∷ ws) = w + total_of ws

total_is : (ws : List ℕ) → length ws ≡ 4 → total_of ws ≡ sum ws
total_is (w0 ∷ w1 ∷ w2 ∷ w3 ∷ []) h = omega arith
total_is ws h = absurd (omega arith)

wide_sum : (ws : List ℕ) (ss : List Ends) (most : ℕ) → All (IsWithin most) ss → weighted ws (highs ss) ≤ℤ (weighted ws (lows ss) +ℤ pos (total_of ws * most))
wide_sum [] ss most h = omega (arith, ints)
wide_sum (w ∷ ws) [] most h = omega (arith, ints)
wide_sum (w ∷ ws) (s ∷ ss) most h =
    let here : s.hi ≤ℤ (s.lo +ℤ pos most) = h 0 s (omega arith) in
    let more : All (IsWithin most) ss = λ k d lt. h (suc k) d (omega (arith, lt)) in
    let first = *ℤ-le_left s.hi (s.lo +ℤ pos most) w here in
    omega (arith, ints, first, *ℤ-+ℤ (pos w) s.lo (pos most), wide_sum ws ss most more)

pub mix_width : (ws : List ℕ) (ss : List Ends) (most q : ℕ) (r : Ends) → length ws ≡ 4 → sum ws ≡ q → IsFloor (weighted ws (lows ss)) q r.lo → IsCeiling (weighted ws (highs ss)) q r.hi
    → All (IsWithin most) ss → IsWithin (most + 1) r
mix_width ws ss most q r four total f g h =
    let wide = wide_sum ws ss most h in
    let weights : total_of ws ≡ q = total_is ws four ∙ total in
    let room : (r.hi *ℤ pos q) <ℤ (r.lo *ℤ pos q +ℤ pos ((most + 2) * q)) = omega (arith, ints, wide, ap (λ k. k * most) weights, f.above, g.below) in
    let spread = +ℤ-*ℤ r.lo (pos (most + 2)) (pos q) in
    let strict : r.hi <ℤ (r.lo +ℤ pos (most + 2)) = *ℤ-lt_back r.hi (r.lo +ℤ pos (most + 2)) q (omega (arith, ints, room, spread)) in
    omega (arith, ints, strict)

-- ---- sums of spans

pub sum_holds : (units : ℕ) (a b : Ends) (x y : ℤ) (d : ℕ) → Holds units a (over x d) → Holds units b (over y d) → Holds units (add a b) (over (x +ℤ y) d)
sum_holds units a b x y d h k =
    let right = *ℤ-+ℤ (pos units) x y in
    record {
      above_zero = h.above_zero;
      low = omega (arith, ints, +ℤ-*ℤ a.lo b.lo (pos d), right, h.low, k.low);
      high = omega (arith, ints, +ℤ-*ℤ a.hi b.hi (pos d), right, h.high, k.high);
    }
