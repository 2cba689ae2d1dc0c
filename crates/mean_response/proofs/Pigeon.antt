-- Among n + 1 numbers below n two are equal.
use Rattle.std.proofs.Common.{ℕ, zero, suc, ◌-◌, min, ◌≡◌, ◌≤◌, ◌<◌, ◌⊎◌, inl, inr, subst, arith}
use Rattle.std.proofs.lemmas.Bool.{cases_lt, cases_eq}

pub record Repeats (n : ℕ) (f : ℕ → ℕ) : Type 0 where
  pub first : ℕ
  pub second : ℕ
  pub order : first < second
  pub last : second ≤ n
  pub same : f first ≡ f second

record Found (f : ℕ → ℕ) (c n : ℕ) : Type 0 where
  at : ℕ
  below : at < n
  same : f at ≡ c

find_below : (f : ℕ → ℕ) (c n : ℕ) → (Found f c n) ⊎ ((i : ℕ) → i < n → f i ≡ c → ⊥)
find_below f c zero = inr (λ i h e. absurd (omega arith))
find_below f c (suc n) =
    elim (cases_eq (f n) c) [
      | inl e ↦ inl (record { at = n; below = omega arith; same = e })
      | inr other ↦ elim (find_below f c n) [
        | inl w ↦ inl (record { at = w.at; below = (let h : w.at < n = w.below in omega arith); same = w.same })
        | inr none ↦ inr (λ i h e. elim (cases_lt i n) [
          | inl l ↦ none i l e
          | inr them ↦ let s : i ≡ n = omega arith in other (subst (λ j. f j ≡ c) s e)
        ])
      ]
    ]

abbrev squeeze : ℕ → ℕ → ℕ
squeeze c x = x - min 1 (x - c)

squeeze-lt : (c x n : ℕ) → (x ≡ c → ⊥) → x < suc n → c < suc n → squeeze c x < n
squeeze-lt c x n ne h k = omega arith

squeeze-same : (c x y : ℕ) → (x ≡ c → ⊥) → (y ≡ c → ⊥) → squeeze c x ≡ squeeze c y → x ≡ y
squeeze-same c x y nx ny e = omega arith

pub pigeon : (n : ℕ) (f : ℕ → ℕ) → ((j : ℕ) → j ≤ n → f j < n) → Repeats n f
pigeon zero f h = let x = h 0 (omega arith) in absurd (omega arith)
pigeon (suc n) f h =
    let c = f (suc n) in
    elim (find_below f c (suc n)) [
      | inl w ↦ record { first = w.at; second = suc n; order = w.below; last = omega arith; same = w.same }
      | inr none ↦
          let r : Repeats n (λ j. squeeze c (f j)) = pigeon n (λ j. squeeze c (f j)) (λ j l. squeeze-lt c (f j) n (none j (omega arith)) (h j (omega arith)) (h (suc n) (omega arith))) in
          let o : r.first < r.second = r.order in
          let t : r.second ≤ n = r.last in
          record {
            first = r.first;
            second = r.second;
            order = r.order;
            last = omega arith;
            same = squeeze-same c (f r.first) (f r.second) (none r.first (omega arith)) (none r.second (omega arith)) r.same;
          }
    ]
