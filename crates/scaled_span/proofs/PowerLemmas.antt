-- Numbers m * 2^e, moved from one exponent to another.
use Rattle.std.proofs.Common.{ℕ, ◌+◌, ◌-◌, ◌*◌, ◌^◌, ◌≡◌, ◌≤◌, ◌<◌, ℤ, pos, negsuc, ◌+ℤ◌, ◌≤ℤ◌, refl, sym, ap, ◌∙◌, arith}
use Rattle.std.proofs.lemmas.Int.{ints}
use Rattle.std.proofs.lemmas.Nat.{pow-add, pow_pos}
use Rattle.std.proofs.Math.Nat.{mul-le-mul_right, mul-le-mul_left, mul-lt-mul_of_pos_right, pow-le-pow_right}
use Rattle.scaled_span.specs.Ratios.{AtMost, IsClose, Same, times, over, plus_one, scaled, above_zero, below_zero}

pub scaled_positive : (m : ℕ) (e : ℤ) → 0 < (scaled m e).den
scaled_positive m e = pow_pos (below_zero e)

-- the power of e + k, over that of e, is 2^k
pub moved : (e e' : ℤ) (k : ℕ) → e' ≡ e +ℤ pos k → 2 ^ above_zero e' * 2 ^ below_zero e ≡ 2 ^ above_zero e * 2 ^ below_zero e' * 2 ^ k
moved e e' k h =
    let sum : above_zero e' + below_zero e ≡ above_zero e + below_zero e' + k = omega (arith, ints) in
    sym (pow-add 2 (above_zero e') (below_zero e)) ∙ ap (λ z. 2 ^ z) sum ∙ pow-add 2 (above_zero e + below_zero e') k ∙ ap (λ z. z * 2 ^ k) (pow-add 2 (above_zero e) (below_zero e'))

-- m * 2^(e+k) against p * 2^e
pub moved_below : (m p k : ℕ) (e e' : ℤ) → e' ≡ e +ℤ pos k → m * 2 ^ k ≤ p → AtMost (scaled m e') (scaled p e)
moved_below m p k e e' h b =
    record { cross = omega (arith, ap (λ z. m * z) (moved e e' k h), mul-le-mul_right (2 ^ above_zero e * 2 ^ below_zero e') b) }

pub moved_above : (m p k : ℕ) (e e' : ℤ) → e' ≡ e +ℤ pos k → p ≤ m * 2 ^ k → AtMost (scaled p e) (scaled m e')
moved_above m p k e e' h b =
    record { cross = omega (arith, ap (λ z. m * z) (moved e e' k h), mul-le-mul_right (2 ^ above_zero e * 2 ^ below_zero e') b) }

pub moved_close : (u n m p k : ℕ) (e e' : ℤ) → e' ≡ e +ℤ pos k → p * (u - n) ≤ m * 2 ^ k * u → IsClose u n (scaled m e') (scaled p e)
moved_close u n m p k e e' h b =
    record { close = omega (arith, ap (λ z. m * u * z) (moved e e' k h), mul-le-mul_right (2 ^ above_zero e * 2 ^ below_zero e') b) }

pub moved_close_up : (u n m p k : ℕ) (e e' : ℤ) → e' ≡ e +ℤ pos k → m * 2 ^ k * (u - n) ≤ p * u → IsClose u n (scaled p e) (scaled m e')
moved_close_up u n m p k e e' h b =
    record { close = omega (arith, ap (λ z. m * (u - n) * z) (moved e e' k h), mul-le-mul_right (2 ^ above_zero e * 2 ^ below_zero e') b) }

-- products and quotients of powers
pub powers_times : (a b c : ℤ) → c ≡ a +ℤ b → 2 ^ above_zero c * (2 ^ below_zero a * 2 ^ below_zero b) ≡ 2 ^ above_zero a * 2 ^ above_zero b * 2 ^ below_zero c
powers_times a b c h =
    let sum : above_zero c + (below_zero a + below_zero b) ≡ above_zero a + above_zero b + below_zero c = omega (arith, ints) in
    ap (λ z. 2 ^ above_zero c * z) (sym (pow-add 2 (below_zero a) (below_zero b))) ∙ sym (pow-add 2 (above_zero c) (below_zero a + below_zero b)) ∙ ap (λ z. 2 ^ z) sum ∙ pow-add 2 (above_zero a + above_zero b) (below_zero c) ∙ ap (λ z. z * 2 ^ below_zero c) (pow-add 2 (above_zero a) (above_zero b))

-- ---- where the first bit of p stands
pub small_room : (p h k : ℕ) → h + k ≡ 63 → p < 2 * 2 ^ h → p * 2 ^ k < 2 ^ 64
small_room p h k e b =
    let whole : 2 ^ h * 2 ^ k ≡ 2 ^ 63 = sym (pow-add 2 h k) ∙ ap (λ z. 2 ^ z) e in
    omega (arith, whole, mul-lt-mul_of_pos_right b (pow_pos k))

pub small_normal : (p h k : ℕ) → h + k ≡ 63 → 2 ^ h ≤ p → 2 ^ 63 ≤ p * 2 ^ k
small_normal p h k e b =
    let whole : 2 ^ h * 2 ^ k ≡ 2 ^ 63 = sym (pow-add 2 h k) ∙ ap (λ z. 2 ^ z) e in
    omega (arith, whole, mul-le-mul_right (2 ^ k) b)

pub large_normal : (p h k : ℕ) → h ≡ 63 + k → 2 ^ h ≤ p → 2 ^ 63 * 2 ^ k ≤ p
large_normal p h k e b =
    let whole : 2 ^ h ≡ 2 ^ 63 * 2 ^ k = ap (λ z. 2 ^ z) e ∙ pow-add 2 63 k in
    omega (arith, whole)

pub large_room : (p h k : ℕ) → h ≡ 63 + k → p < 2 * 2 ^ h → p < 2 ^ 64 * 2 ^ k
large_room p h k e b =
    let whole : 2 ^ h ≡ 2 ^ 63 * 2 ^ k = ap (λ z. 2 ^ z) e ∙ pow-add 2 63 k in
    omega (arith, whole)

-- ---- what rounding leaves
-- m is p without its last k bits
pub cut_close : (m p k : ℕ) → 2 ^ 63 ≤ m → m * 2 ^ k ≤ p → p < m * 2 ^ k + 2 ^ k → p * (2 ^ 63 - 1) ≤ m * 2 ^ k * 2 ^ 63
cut_close m p k n b a = omega (arith, mul-le-mul_right (2 ^ k) n)

-- m + 1 where bits were cut
pub raised_close : (m p k : ℕ) → 2 ^ 63 ≤ m → m * 2 ^ k ≤ p → (m + 1) * 2 ^ k * (2 ^ 63 - 1) ≤ p * 2 ^ 63
raised_close m p k n b = omega (arith, mul-le-mul_right (2 ^ k) n)

pub raised_above : (m p k : ℕ) → p < m * 2 ^ k + 2 ^ k → p ≤ (m + 1) * 2 ^ k
raised_above m p k a = omega arith

-- one power more, of half as much
pub halved : (k : ℕ) → 2 ^ 63 * 2 ^ (k + 1) ≡ 2 ^ 64 * 2 ^ k
halved k = let e : 2 ^ (k + 1) ≡ 2 ^ k * 2 = pow-add 2 k 1 in omega (arith, e)

-- the number that gained k bits is as it was
pub grown_below : (p k : ℕ) (e e' : ℤ) → e ≡ e' +ℤ pos k → AtMost (scaled (p * 2 ^ k) e') (scaled p e)
grown_below p k e e' h = moved_above p (p * 2 ^ k) k e' e h (omega arith)

pub grown_above : (p k : ℕ) (e e' : ℤ) → e ≡ e' +ℤ pos k → AtMost (scaled p e) (scaled (p * 2 ^ k) e')
grown_above p k e e' h = moved_below p (p * 2 ^ k) k e' e h (omega arith)

-- ---- products and quotients
pub product_same : (m n : ℕ) (a b c : ℤ) → c ≡ a +ℤ b → Same (scaled (m * n) c) (times (scaled m a) (scaled n b))
product_same m n a b c h = record { cross = omega (arith, ap (λ z. m * n * z) (powers_times a b c h)) }

-- the powers of a quotient: a = c + b + 64
powers_over : (a b c : ℤ) → a ≡ c +ℤ b +ℤ pos 64 → 2 ^ above_zero a * (2 ^ below_zero c * 2 ^ below_zero b) ≡ 2 ^ above_zero c * 2 ^ above_zero b * 2 ^ below_zero a * 2 ^ 64
powers_over a b c h =
    let sum : above_zero a + (below_zero c + below_zero b) ≡ above_zero c + above_zero b + below_zero a + 64 = omega (arith, ints) in
    ap (λ z. 2 ^ above_zero a * z) (sym (pow-add 2 (below_zero c) (below_zero b))) ∙ sym (pow-add 2 (above_zero a) (below_zero c + below_zero b)) ∙ ap (λ z. 2 ^ z) sum ∙ pow-add 2 (above_zero c + above_zero b + below_zero a) 64
    ∙ ap (λ z. z * 2 ^ 64) (pow-add 2 (above_zero c + above_zero b) (below_zero a) ∙ ap (λ z. z * 2 ^ below_zero a) (pow-add 2 (above_zero c) (above_zero b)))

-- q against m * 2^64 / n
pub quotient_below : (q m n : ℕ) (a b c : ℤ) → a ≡ c +ℤ b +ℤ pos 64 → q * n ≤ m * 2 ^ 64 → AtMost (scaled q c) (over (scaled m a) (scaled n b))
quotient_below q m n a b c h k =
    record { cross = omega (arith, ap (λ z. m * z) (powers_over a b c h), mul-le-mul_right (2 ^ above_zero c * 2 ^ above_zero b * 2 ^ below_zero a) k) }

pub quotient_above : (q m n : ℕ) (a b c : ℤ) → a ≡ c +ℤ b +ℤ pos 64 → m * 2 ^ 64 ≤ q * n → AtMost (over (scaled m a) (scaled n b)) (scaled q c)
quotient_above q m n a b c h k =
    record { cross = omega (arith, ap (λ z. m * z) (powers_over a b c h), mul-le-mul_right (2 ^ above_zero c * 2 ^ above_zero b * 2 ^ below_zero a) k) }

pub quotient_close : (q m n : ℕ) (a b c : ℤ) → a ≡ c +ℤ b +ℤ pos 64 → 2 ^ 63 ≤ m → n < 2 ^ 64 → m * 2 ^ 64 < q * n + n → IsClose (2 ^ 63) 1 (scaled q c) (over (scaled m a) (scaled n b))
quotient_close q m n a b c h mn nn k =
    let plain : m * 2 ^ 64 * (2 ^ 63 - 1) ≤ q * n * 2 ^ 63 = omega arith in
    record { close = omega (arith, ap (λ z. m * z) (powers_over a b c h), mul-le-mul_right (2 ^ above_zero c * 2 ^ above_zero b * 2 ^ below_zero a) plain) }

pub quotient_close_up : (q m n : ℕ) (a b c : ℤ) → a ≡ c +ℤ b +ℤ pos 64 → 2 ^ 63 ≤ m → n < 2 ^ 64 → q * n ≤ m * 2 ^ 64 + n → IsClose (2 ^ 63) 1 (over (scaled m a) (scaled n b)) (scaled q c)
quotient_close_up q m n a b c h mn nn k =
    let plain : q * n * (2 ^ 63 - 1) ≤ m * 2 ^ 64 * 2 ^ 63 = omega arith in
    record { close = omega (arith, ap (λ z. m * z) (powers_over a b c h), mul-le-mul_right (2 ^ above_zero c * 2 ^ above_zero b * 2 ^ below_zero a) plain) }

-- ---- one more
one_power : (e : ℤ) → above_zero e ≡ 0 → 2 ^ above_zero e ≡ 1
one_power e h = ap (λ z. 2 ^ z) h

pub sum_same : (m p : ℕ) (e : ℤ) → above_zero e ≡ 0 → p ≡ m + 2 ^ below_zero e → Same (scaled p e) (plus_one (scaled m e))
sum_same m p e h k = record { cross = omega (arith, ap (λ z. m * 2 ^ below_zero e * z) (one_power e h), ap (λ z. p * 2 ^ below_zero e * z) (one_power e h), ap (λ z. z * 2 ^ below_zero e) k) }

-- a number so large that 1 is no part of it
pub large_below : (m : ℕ) (e : ℤ) → AtMost (scaled m e) (plus_one (scaled m e))
large_below m e = record { cross = omega arith }

pub no_depth : (e : ℤ) → pos 0 ≤ℤ e → below_zero e ≡ 0
no_depth (pos n) h = refl
no_depth (negsuc n) h = absurd (omega (arith, ints))

pub no_height : (e : ℤ) → e ≤ℤ pos 0 → above_zero e ≡ 0
no_height (pos n) h = omega (arith, ints)
no_height (negsuc n) h = refl

large_number : (m : ℕ) (e : ℤ) → 2 ^ 63 ≤ m → 2 ^ 63 ≤ m * 2 ^ above_zero e
large_number m e h = omega (arith, mul-le-mul_left m (pow_pos (above_zero e)))

pub large_close : (m : ℕ) (e : ℤ) → 2 ^ 63 ≤ m → pos 0 ≤ℤ e → IsClose (2 ^ 63) 1 (scaled m e) (plus_one (scaled m e))
large_close m e h k = record { close = plain (m * 2 ^ above_zero e) (2 ^ below_zero e) (ap (λ z. 2 ^ z) (no_depth e k)) (large_number m e h) }
  where
    plain : (n d : ℕ) → d ≡ 1 → 2 ^ 63 ≤ n → (n + d) * (2 ^ 63 - 1) * d ≤ n * d * 2 ^ 63
    plain n d e h = rw e (omega arith)

pub large_above : (m : ℕ) (e : ℤ) → pos 0 ≤ℤ e → AtMost (plus_one (scaled m e)) (scaled (m + 1) e)
large_above m e k = record { cross = plain m (2 ^ above_zero e) (2 ^ below_zero e) (ap (λ z. 2 ^ z) (no_depth e k)) (pow_pos (above_zero e)) }
  where
    plain : (m x d : ℕ) → d ≡ 1 → 0 < x → (m * x + d) * d ≤ (m + 1) * x * d
    plain m x d e h = rw e (omega arith)

pub large_close_up : (m : ℕ) (e : ℤ) → 2 ^ 63 ≤ m → pos 0 ≤ℤ e → IsClose (2 ^ 63) 1 (plus_one (scaled m e)) (scaled (m + 1) e)
large_close_up m e h k = record { close = plain m (2 ^ above_zero e) (2 ^ below_zero e) (ap (λ z. 2 ^ z) (no_depth e k)) h }
  where
    plain : (m x d : ℕ) → d ≡ 1 → 2 ^ 63 ≤ m → (m + 1) * x * (2 ^ 63 - 1) * d ≤ (m * x + d) * d * 2 ^ 63
    plain m x d e h = rw e (omega (arith, mul-le-mul_right x h))

-- a number so small that it is no part of 1
small_room_for : (e : ℤ) → 128 ≤ below_zero e → 2 ^ 128 ≤ 2 ^ below_zero e
small_room_for e h = pow-le-pow_right (omega arith) h

pub small_below : (m : ℕ) (e : ℤ) → AtMost (scaled (2 ^ 63) (negsuc 62)) (plus_one (scaled m e))
small_below m e = record { cross = omega arith }

pub small_close : (m : ℕ) (e : ℤ) → m < 2 ^ 64 → above_zero e ≡ 0 → 128 ≤ below_zero e → IsClose (2 ^ 63) 1 (scaled (2 ^ 63) (negsuc 62)) (plus_one (scaled m e))
small_close m e h k b = record { close = plain m (2 ^ above_zero e) (2 ^ below_zero e) (one_power e k) h (small_room_for e b) }
  where
    plain : (m x d : ℕ) → x ≡ 1 → m < 2 ^ 64 → 2 ^ 128 ≤ d → (m * x + d) * (2 ^ 63 - 1) * 2 ^ 63 ≤ 2 ^ 63 * 2 ^ 0 * d * 2 ^ 63
    plain m x d e h b = rw e (omega arith)

pub small_above : (m : ℕ) (e : ℤ) → m < 2 ^ 64 → above_zero e ≡ 0 → 128 ≤ below_zero e → AtMost (plus_one (scaled m e)) (scaled (2 ^ 63 + 1) (negsuc 62))
small_above m e h k b = record { cross = plain m (2 ^ above_zero e) (2 ^ below_zero e) (one_power e k) h (small_room_for e b) }
  where
    plain : (m x d : ℕ) → x ≡ 1 → m < 2 ^ 64 → 2 ^ 128 ≤ d → (m * x + d) * 2 ^ 63 ≤ (2 ^ 63 + 1) * 2 ^ 0 * d
    plain m x d e h b = rw e (omega arith)

pub small_close_up : (m : ℕ) (e : ℤ) → IsClose (2 ^ 63) 1 (plus_one (scaled m e)) (scaled (2 ^ 63 + 1) (negsuc 62))
small_close_up m e = record { close = plain (m * 2 ^ above_zero e) (2 ^ below_zero e) }
  where
    plain : (n d : ℕ) → (2 ^ 63 + 1) * 2 ^ 0 * (2 ^ 63 - 1) * d ≤ (n + d) * 2 ^ 63 * 2 ^ 63
    plain n d = omega arith
