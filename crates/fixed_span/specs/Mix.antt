-- Weighted means of spans, rounded outward.
use Rattle.std.specs.Prelude.{ℕ, ◌^◌, ℤ, pos, neg_ℤ, ◌+ℤ◌, ◌*ℤ◌, ◌≤ℤ◌, ◌<ℤ◌, List, [], ◌∷◌, map}
use Rattle.fixed_span.specs.Span.{Ends, over, Holds}

-- r is the greatest whole number with r * q ≤ x
pub record IsFloor (x : ℤ) (q : ℕ) (r : ℤ) : Type 0 where
  pub below : (r *ℤ pos q) ≤ℤ x
  pub above : x <ℤ (r *ℤ pos q +ℤ pos q)

-- r is the least whole number with x ≤ r * q
pub record IsCeiling (x : ℤ) (q : ℕ) (r : ℤ) : Type 0 where
  pub above : x ≤ℤ (r *ℤ pos q)
  pub below : (r *ℤ pos q) <ℤ (x +ℤ pos q)

-- both ends lie between -10^24 and 10^24
pub record CanBeMixed (span : Ends) : Type 0 where
  pub low : neg_ℤ (pos (10 ^ 24)) ≤ℤ span.lo
  pub high : span.hi ≤ℤ pos (10 ^ 24)

-- the sum of each weight times its number
abbrev pub weighted : List ℕ → List ℤ → ℤ
weighted [] xs = pos 0
weighted (w ∷ ws) [] = pos 0
weighted (w ∷ ws) (x ∷ xs) = pos w *ℤ x +ℤ weighted ws xs

abbrev pub lows : List Ends → List ℤ
lows spans = map (λ s. s.lo) spans

abbrev pub highs : List Ends → List ℤ
highs spans = map (λ s. s.hi) spans

-- each span holds its number over the one denominator
abbrev pub AllHold : ℕ → List Ends → List ℤ → ℕ → Type 0
AllHold units [] [] denominator = Unit {0}
AllHold units [] (x ∷ xs) denominator = ⊥
AllHold units (span ∷ spans) [] denominator = ⊥
AllHold units (span ∷ spans) (x ∷ xs) denominator = Holds units span (over x denominator) × AllHold units spans xs denominator

-- the sum of four weights, each times its number
abbrev pub sum_of_four : ℕ → ℕ → ℕ → ℕ → ℤ → ℤ → ℤ → ℤ → ℤ
sum_of_four w0 w1 w2 w3 a b c d = pos w0 *ℤ a +ℤ pos w1 *ℤ b +ℤ pos w2 *ℤ c +ℤ pos w3 *ℤ d
