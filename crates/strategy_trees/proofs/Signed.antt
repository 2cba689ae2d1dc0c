-- Products with differences of whole numbers: `omega` multiplies no equation by a factor, so it is handed the products.
use Rattle.std.proofs.Common.{ℕ, ◌*◌, ◌≡◌, ℤ, pos, ◌+ℤ◌, ◌-ℤ◌, ◌*ℤ◌, neg_ℤ, ap, ◌∙◌, arith}
use Rattle.std.proofs.lemmas.Int.{ints}
use borrow.Author.Differences.{up, down, product_is, sum_is_lem, neg_is}

*ℤ-+ℤ : (a b c : ℤ) → a *ℤ (b +ℤ c) ≡ a *ℤ b +ℤ a *ℤ c
*ℤ-+ℤ a b c = let e = sum_is_lem b c in omega (arith, ints, ap (λ x. up a * x) e, ap (λ x. down a * x) e)

+ℤ-*ℤ : (a b c : ℤ) → (a +ℤ b) *ℤ c ≡ a *ℤ c +ℤ b *ℤ c
+ℤ-*ℤ a b c = let e = sum_is_lem a b in omega (arith, ints, ap (λ x. x * up c) e, ap (λ x. x * down c) e)

*ℤ-neg : (a b : ℤ) → a *ℤ neg_ℤ b ≡ neg_ℤ (a *ℤ b)
*ℤ-neg a b =
    let g = neg_is b in
    omega (arith, ints, ap (λ x. up a * x) g.0, ap (λ x. down a * x) g.0, ap (λ x. up a * x) g.1, ap (λ x. down a * x) g.1)

neg-*ℤ : (a b : ℤ) → neg_ℤ a *ℤ b ≡ neg_ℤ (a *ℤ b)
neg-*ℤ a b =
    let g = neg_is a in
    omega (arith, ints, ap (λ x. x * up b) g.0, ap (λ x. x * down b) g.0, ap (λ x. x * up b) g.1, ap (λ x. x * down b) g.1)

pub *ℤ--ℤ : (a b c : ℤ) → a *ℤ (b -ℤ c) ≡ a *ℤ b -ℤ a *ℤ c
*ℤ--ℤ a b c = *ℤ-+ℤ a b (neg_ℤ c) ∙ ap (λ x. a *ℤ b +ℤ x) (*ℤ-neg a c)

pub -ℤ-*ℤ : (a b c : ℤ) → (a -ℤ b) *ℤ c ≡ a *ℤ c -ℤ b *ℤ c
-ℤ-*ℤ a b c = +ℤ-*ℤ a (neg_ℤ b) c ∙ ap (λ x. a *ℤ c +ℤ x) (neg-*ℤ b c)

pub *ℤ_assoc : (a b c : ℤ) → (a *ℤ b) *ℤ c ≡ a *ℤ (b *ℤ c)
*ℤ_assoc a b c =
    let e = product_is a b in let f = product_is b c in
    omega (
      arith,
      ints,
      ap (λ x. x * up c) e.0,
      ap (λ x. x * down c) e.0,
      ap (λ x. x * up c) e.1,
      ap (λ x. x * down c) e.1,
      ap (λ x. up a * x) f.0,
      ap (λ x. down a * x) f.0,
      ap (λ x. up a * x) f.1,
      ap (λ x. down a * x) f.1,
    )

pub pos-*ℤ : (m n : ℕ) → pos m *ℤ pos n ≡ pos (m * n)
pos-*ℤ m n = omega (arith, ints)

-- the same with natural numbers
pub pos-less : (k m n : ℕ) → pos k *ℤ (pos m -ℤ pos n) ≡ pos (k * m) -ℤ pos (k * n)
pos-less k m n = *ℤ--ℤ (pos k) (pos m) (pos n) ∙ omega (arith, ints)

pub less-pos : (m n k : ℕ) → (pos m -ℤ pos n) *ℤ pos k ≡ pos (m * k) -ℤ pos (n * k)
less-pos m n k = -ℤ-*ℤ (pos m) (pos n) (pos k) ∙ omega (arith, ints)

pub plus-pos : (a : ℤ) (m k : ℕ) → (a +ℤ pos m) *ℤ pos k ≡ a *ℤ pos k +ℤ pos (m * k)
plus-pos a m k = +ℤ-*ℤ a (pos m) (pos k) ∙ ap (λ x. a *ℤ pos k +ℤ x) (pos-*ℤ m k)
