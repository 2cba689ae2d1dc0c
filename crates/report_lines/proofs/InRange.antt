-- What the tests of a line say.
use Rattle.std.proofs.Common.{◌≡◌, ℕ, ◌*◌, ◌^◌, ◌<◌, ◌≤◌, Bool, true, false, leb, ◌&&◌, ℤ, pos, negsuc, ◌≤ℤ◌, Some, refl, arith}
use Rattle.std.specs.Prelude.{int_le, neg_ℤ, unsigned_abs}
use Rattle.std.proofs.lemmas.Bool.{eqb-true}
use Rattle.std.proofs.lemmas.Bool.Decides.{nat_tests}
use Rattle.std.proofs.lemmas.Int.{ints}
use Rattle.history_model.specs.declared.tally.Tally.{Tally}
use Rattle.history_model.specs.Name.{is_name}
use Rattle.history_model.specs.Noise.{FlipRate}
use Rattle.history_model.specs.Tally.{total}
use Rattle.fixed_span.specs.Span.{Ends, point}
use Rattle.report_lines.specs.declared.line.ShownMatch.{ShownMatch}
use Rattle.report_lines.specs.Fields.{is_within, is_amount}
use Rattle.report_lines.specs.Texts.{is_noise, is_turns, is_score, counts_are, is_match, is_total, are_points, is_count, is_number}

pub both_true : (a b : Bool) → (a && b) ≡ true → (a ≡ true) × (b ≡ true)
both_true true b h = (refl, h)
both_true false b h = absurd cc

leb_is : (a b : ℕ) → leb a b ≡ true → a ≤ b
leb_is a b h = grind (arith, nat_tests)

pub noise_few : (noise : FlipRate) → is_noise noise ≡ true → (noise.n ≤ 1000) × (noise.e ≤ 1000)
noise_few noise h =
    let a = both_true (leb 1 noise.e && leb noise.e 1000) (leb (2 * noise.n) noise.e) h in
    let b = both_true (leb 1 noise.e) (leb noise.e 1000) a.0 in
    let e : noise.e ≤ 1000 = leb_is noise.e 1000 b.1 in
    let half : 2 * noise.n ≤ noise.e = leb_is (2 * noise.n) noise.e a.1 in
    (omega (arith, e, half), e)

pub turns_few : (turns : ℕ) → is_turns turns ≡ true → turns ≤ 10 ^ 12
turns_few turns h = leb_is turns (10 ^ 12) (both_true (leb 1 turns) (leb turns (10 ^ 12)) h).1

int_le_is : (a b : ℤ) → int_le a b ≡ true → a ≤ℤ b
int_le_is a b h = grind (arith, ints)

abs_few : (z : ℤ) (m : ℕ) → neg_ℤ (pos m) ≤ℤ z → z ≤ℤ pos m → unsigned_abs z ≤ m
abs_few (pos n) m low high = omega (arith, ints, high)
abs_few (negsuc n) m low high = omega (arith, ints, low)

-- a score that is shown
pub record IsTold (x : Ends) : Type 0 where
  pub ordered : x.lo ≤ℤ x.hi
  pub lo : unsigned_abs x.lo ≤ 10 ^ 37
  pub hi : unsigned_abs x.hi ≤ 10 ^ 37

within_told : (most : ℕ) (x : Ends) → most ≤ 10 ^ 37 → is_within most x ≡ true → IsTold x
within_told most x few h =
    let a = both_true (int_le (neg_ℤ (pos most)) x.lo) (int_le x.lo x.hi && int_le x.hi (pos most)) h in
    let b = both_true (int_le x.lo x.hi) (int_le x.hi (pos most)) a.1 in
    let low = int_le_is (neg_ℤ (pos most)) x.lo a.0 in
    let ordered = int_le_is x.lo x.hi b.0 in
    let high = int_le_is x.hi (pos most) b.1 in
    let lo : unsigned_abs x.lo ≤ most = abs_few x.lo most low (omega (arith, ints, ordered, high)) in
    let hi : unsigned_abs x.hi ≤ most = abs_few x.hi most (omega (arith, ints, ordered, low)) high in
    record { ordered = ordered; lo = omega (arith, lo, few); hi = omega (arith, hi, few) }

pub total_told : (total : Ends) → is_total total ≡ true → IsTold total
total_told total h = within_told (10 ^ 37) total (omega arith) h

pub score_told : (score : Ends) → is_score score ≡ true → IsTold score
score_told score h = within_told (10 ^ 33) score (omega arith) h

pub points_told : (units : ℤ) → are_points units ≡ true → IsTold (point units)
points_told units h =
    let a = both_true (int_le (pos 0) units) (int_le units (pos (10 ^ 37))) h in
    let low : pos 0 ≤ℤ units = int_le_is (pos 0) units a.0 in
    let high : units ≤ℤ pos (10 ^ 37) = int_le_is units (pos (10 ^ 37)) a.1 in
    let few : unsigned_abs units ≤ 10 ^ 37 = abs_few units (10 ^ 37) (omega (arith, ints, low)) high in
    record { ordered = omega (arith, ints); lo = few; hi = few }

pub amount_few : (n : ℕ) → is_amount n ≡ true → n ≤ 1000000
amount_few n h = leb_is n 1000000 h

-- no count is above the turns
pub record CountsFew (tally : Tally) : Type 0 where
  pub cc : tally.cc ≤ 10 ^ 12
  pub cd : tally.cd ≤ 10 ^ 12
  pub dc : tally.dc ≤ 10 ^ 12
  pub dd : tally.dd ≤ 10 ^ 12

pub counts_few : (turns : ℕ) (tally : Tally) → turns ≤ 10 ^ 12 → counts_are turns (Some tally) ≡ true → CountsFew tally
counts_few turns tally few h =
    let sum : total tally ≡ turns = eqb-true (total tally) turns h in
    record { cc = omega (arith, few, sum); cd = omega (arith, few, sum); dc = omega (arith, few, sum); dd = omega (arith, few, sum) }

pub record MatchParts (m : ShownMatch) : Type 0 where
  pub left : is_name m.left ≡ true
  pub right : is_name m.right ≡ true
  pub turns : m.turns ≤ 10 ^ 12
  pub left_score : is_score m.left_score ≡ true
  pub right_score : is_score m.right_score ≡ true
  pub counts : counts_are m.turns m.tally ≡ true

pub match_parts : (m : ShownMatch) → is_match m ≡ true → MatchParts m
match_parts m h =
    let a = both_true (is_name m.left && is_name m.right) ((is_turns m.turns && is_score m.left_score) && (is_score m.right_score && counts_are m.turns m.tally)) h in
    let n = both_true (is_name m.left) (is_name m.right) a.0 in
    let b = both_true (is_turns m.turns && is_score m.left_score) (is_score m.right_score && counts_are m.turns m.tally) a.1 in
    let c = both_true (is_turns m.turns) (is_score m.left_score) b.0 in
    let d = both_true (is_score m.right_score) (counts_are m.turns m.tally) b.1 in
    record { left = n.0; right = n.1; turns = turns_few m.turns c.0; left_score = c.1; right_score = d.0; counts = d.1 }

pub count_few : (n : ℕ) → is_count n ≡ true → n < 2 ^ 32
count_few n h = grind (arith, nat_tests)

pub number_few : (n : ℕ) → is_number n ≡ true → n < 2 ^ 64
number_few n h = grind (arith, nat_tests)
