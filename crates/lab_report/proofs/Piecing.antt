-- A piece from the front of what is to come.
use Rattle.std.proofs.Common.{◌≡◌, ◌⊎◌, ℕ, ◌<◌, ◌≤◌, min, List, [], ◌++◌, length, take, drop, sym, ◌∙◌, ap, inl, inr, arith}
use Rattle.std.proofs.lemmas.Bool.{cases_lt}
use Rattle.std.proofs.lemmas.List.{append-nil, drop-append-le, drop_all, take-append-le, take_all}

-- where less than a piece is ready, no line is left
none_left : (ready rest : List ℕ) → (4096 ≤ length ready) ⊎ (rest ≡ []) → length ready < 4096 → rest ≡ []
none_left ready rest (inl whole) short = absurd (omega (arith, whole, short))
none_left ready rest (inr none) short = none

all_ready : (ready rest come : List ℕ) → rest ≡ [] → ready ++ rest ≡ come → ready ≡ come
all_ready ready rest come none from = sym (append-nil ready) ∙ ap (λ (t : List ℕ). ready ++ t) (sym none) ∙ from

-- the first of so many, or all where there are fewer
pub front_is : (ready rest come : List ℕ) (count : ℕ) → (4096 ≤ length ready) ⊎ (rest ≡ []) → ready ++ rest ≡ come → count ≡ min (length ready) 4096 → take count ready ≡ take 4096 come
front_is ready rest come count enough from is = elim (cases_lt (length ready) 4096) [
  | inl short ↦ take_all count ready (omega (arith, is, short)) ∙ sym (take_all 4096 ready (omega (arith, short))) ∙ ap (take 4096) (all_ready ready rest come (none_left ready rest enough short) from)
  | inr long ↦ let all : count ≡ 4096 = omega (arith, is, long) in
      ap (λ n. take n ready) all ∙ sym (take-append-le 4096 ready rest (omega (arith, long))) ∙ ap (take 4096) from
]

pub rest_is : (ready rest come : List ℕ) (count : ℕ) → (4096 ≤ length ready) ⊎ (rest ≡ []) → ready ++ rest ≡ come → count ≡ min (length ready) 4096 → drop count ready ++ rest ≡ drop 4096 come
rest_is ready rest come count enough from is = elim (cases_lt (length ready) 4096) [
  | inl short ↦ let none = none_left ready rest enough short in
      ap (λ (t : List ℕ). t ++ rest) (drop_all count ready (omega (arith, is, short))) ∙ none ∙ sym (drop_all 4096 ready (omega (arith, short))) ∙ ap (drop 4096) (all_ready ready rest come none from)
  | inr long ↦ let all : count ≡ 4096 = omega (arith, is, long) in
      ap (λ n. drop n ready ++ rest) all ∙ sym (drop-append-le 4096 ready rest (omega (arith, long))) ∙ ap (drop 4096) from
]
