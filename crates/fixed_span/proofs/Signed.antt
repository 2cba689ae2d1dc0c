-- The ring laws of ℤ that std lacks: `omega` multiplies no equation by a factor, so it is handed the products.
use Rattle.std.proofs.Common.{ℕ, ◌+◌, ◌*◌, ◌≡◌, ◌<◌, ℤ, pos, ◌+ℤ◌, ◌*ℤ◌, ◌≤ℤ◌, ◌<ℤ◌, ap, arith}
use Rattle.std.proofs.lemmas.Int.{ints}
use Rattle.std.proofs.Math.Nat.{mul-le-mul_right, mul-le-mul_left, lt_of_mul-lt-mul_right}
use borrow.Author.Differences.{up, down, product_is, sum_is_lem, le_out}

pub *ℤ-+ℤ : (a b c : ℤ) → a *ℤ (b +ℤ c) ≡ a *ℤ b +ℤ a *ℤ c
*ℤ-+ℤ a b c = let e = sum_is_lem b c in omega (arith, ints, ap (λ x. up a * x) e, ap (λ x. down a * x) e)

pub +ℤ-*ℤ : (a b c : ℤ) → (a +ℤ b) *ℤ c ≡ a *ℤ c +ℤ b *ℤ c
+ℤ-*ℤ a b c = let e = sum_is_lem a b in omega (arith, ints, ap (λ x. x * up c) e, ap (λ x. x * down c) e)

pub *ℤ_assoc : (a b c : ℤ) → (a *ℤ b) *ℤ c ≡ a *ℤ (b *ℤ c)
*ℤ_assoc a b c =
    let e = product_is a b in let f = product_is b c in
    omega (
      arith,
      ints,
      ap (λ x. x * up c) e.0,
      ap (λ x. x * down c) e.0,
      ap (λ x. x * up c) e.1,
      ap (λ x. x * down c) e.1,
      ap (λ x. up a * x) f.0,
      ap (λ x. down a * x) f.0,
      ap (λ x. up a * x) f.1,
      ap (λ x. down a * x) f.1,
    )

pub *ℤ-le : (a b : ℤ) (q : ℕ) → a ≤ℤ b → (a *ℤ pos q) ≤ℤ (b *ℤ pos q)
*ℤ-le a b q h = omega (arith, ints, mul-le-mul_right q (le_out a b h))

pub *ℤ-le_left : (a b : ℤ) (q : ℕ) → a ≤ℤ b → (pos q *ℤ a) ≤ℤ (pos q *ℤ b)
*ℤ-le_left a b q h = omega (arith, ints, mul-le-mul_left q (le_out a b h))

pub *ℤ-lt_back : (a b : ℤ) (q : ℕ) → (a *ℤ pos q) <ℤ (b *ℤ pos q) → a <ℤ b
*ℤ-lt_back a b q h = let k : (up a + down b) * q < (up b + down a) * q = omega (arith, ints) in let r = lt_of_mul-lt-mul_right q k in omega (arith, ints, r)
