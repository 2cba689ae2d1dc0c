-- Numbers of either sign as differences, since `omega` multiplies out products of naturals alone.
use Rattle.std.proofs.Common.{ℕ, ◌+◌, ◌*◌, ◌≡◌, ℤ, pos, ◌+ℤ◌, ◌*ℤ◌, ap, arith}
use Rattle.std.proofs.lemmas.Int.{ints}
use borrow.Author.Differences.{up, down, product_is, sum_is_lem}

-- z = p - q
pub record IsDifference (z : ℤ) (p q : ℕ) : Type 0 where
  pub parts : up z + q ≡ down z + p

pub of_itself : (z : ℤ) → IsDifference z (up z) (down z)
of_itself z = record { parts = omega arith }

pub of_natural : (n : ℕ) → IsDifference (pos n) n 0
of_natural n = record { parts = omega arith }

pub of_sum : (a b : ℤ) (p q r s : ℕ) → IsDifference a p q → IsDifference b r s → IsDifference (a +ℤ b) (p + r) (q + s)
of_sum a b p q r s h k = record { parts = omega (arith, sum_is_lem a b, h.parts, k.parts) }

pub of_part : (n : ℕ) (a : ℤ) (p q : ℕ) → IsDifference a p q → IsDifference (pos n *ℤ a) (n * p) (n * q)
of_part n a p q h = let e = product_is (pos n) a in record { parts = omega (arith, e.0, e.1, ap (λ z. n * z) h.parts) }

pub of_times : (n : ℕ) (a : ℤ) (p q : ℕ) → IsDifference a p q → IsDifference (a *ℤ pos n) (p * n) (q * n)
of_times n a p q h = let e = product_is a (pos n) in record { parts = omega (arith, e.0, e.1, ap (λ z. z * n) h.parts) }

pub of_equal : (a b : ℤ) (p q r s : ℕ) → a ≡ b → IsDifference a p q → IsDifference b r s → p + s ≡ q + r
of_equal a b p q r s e h k = let u = ap up e in let d = ap down e in omega (arith, u, d, h.parts, k.parts)

pub equal_of : (a b : ℤ) (p q r s : ℕ) → p + s ≡ q + r → IsDifference a p q → IsDifference b r s → a ≡ b
equal_of a b p q r s e h k = omega (arith, ints, e, h.parts, k.parts)
