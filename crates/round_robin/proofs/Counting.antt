-- Pairs in strictly ascending order are few.
use Rattle.std.proofs.Common.{◌≡◌, ◌⊎◌, inl, inr, ℕ, zero, suc, ◌+◌, ◌*◌, ◌≤◌, ◌<◌, List, length, ap, subst, add-one, arith}
use Rattle.std.proofs.lemmas.List.{length-map}
use Rattle.result_lines.specs.declared.line.MatchLine.{MatchLine}
use Rattle.round_robin.specs.Contest.{ArePairs, IsBefore, pair_at}
use Rattle.result_lines.specs.Totals.{pairs_of}

-- a pair of places below 64 as one number
abbrev number : ℕ × ℕ → ℕ
number pair = 64 * pair.0 + pair.1

rises : (p q : ℕ × ℕ) → p.1 < 64 → IsBefore p q → number p < number q
rises p q small (inl first) = omega (arith, small, first)
rises p q small (inr second) = omega (arith, second.0, second.1)

module _ (count : ℕ) (pairs : List (ℕ × ℕ)) (few : count ≤ 64) (are : ArePairs count pairs) where
  at_least : (k : ℕ) → k < length pairs → k ≤ number (pair_at pairs k)
  at_least zero inside = omega arith
  at_least (suc k) inside =
      let before : k < length pairs = omega (arith, inside) in
      let next : k + 1 < length pairs = omega (arith, inside) in
      let pair = are.each k (0, 0) before in
      let up = rises (pair_at pairs k) (pair_at pairs (k + 1)) (omega (arith, pair.inside, few)) (are.ascending k next) in
      let P : ℕ → Type 0 = λ n. n ≤ number (pair_at pairs n) in
      subst P (add-one k) (omega (arith, at_least k before, up))

  pub pairs_few : length pairs ≤ 4096
  pairs_few = elim (split (length pairs)) as (λ _. length pairs ≤ 4096) [
    | inl h ↦ h
    | inr more ↦
        let low = at_least 4096 more in
        let pair = are.each 4096 (0, 0) more in
        absurd (omega (arith, low, pair.ordered, pair.inside, few))
  ]
    where
      split : (n : ℕ) → (n ≤ 4096) ⊎ (4096 < n)
      split n = grind arith

pub lines_few : (count : ℕ) (pairs : List (ℕ × ℕ)) (lines : List MatchLine) → count ≤ 64 → ArePairs count pairs → pairs_of lines ≡ pairs
    → length lines ≤ 4096
lines_few count pairs lines few are places =
    omega (arith, pairs_few count pairs few are, ap length places, length-map {B = ℕ × ℕ} lines (λ (l : MatchLine). (l.left, l.right)))
