-- A number is read exactly from its decimal text.
use Rattle.std.proofs.Common.{◌≡◌, ℕ, zero, suc, ◌+◌, ◌*◌, ◌/◌, ◌%◌, ◌-◌, ◌^◌, ◌<◌, ◌≤◌, Bool, true, false, cond, eqb, ltb, ◌&&◌, not, List, [], ◌∷◌, ◌++◌, length, Option, Some, None, refl, sym, ap, subst, ◌∙◌, append_assoc, arith, inl, inr, ◌⊎◌}
use Rattle.std.specs.Fmt.{decimal}
use Rattle.std.proofs.Math.Nat.{mul-le-mul_right}
use Rattle.std.proofs.lemmas.Bool.{ltb-true}
use Rattle.std.proofs.lemmas.Bool.Decides.{nat_tests}
use Rattle.std.proofs.lemmas.List.{append-nil}
use Rattle.std.proofs.lemmas.Fmt.{decimal_digit, decimal_step_wide, decimal_by_steps_wide}
use Rattle.texts.specs.Numbers.{is_digit, is_well_led, value_from, number_of, small, ◌>>=◌, NumbersAreExact}
use Rattle.texts.specs.Cuts.{lacks}

-- the test of a step that went on
pub went : {A : Type 0} (b : Bool) (x : Option A) (y : A) → cond b x None ≡ Some y → (b ≡ true) × (x ≡ Some y)
went true x y e = (refl, e)
went false x y e = absurd cc

pub some_is : {A : Type 0} (x y : A) → Some x ≡ Some y → x ≡ y
some_is x y e = cc

-- the value of a step that gave one
pub bind_some : {A B : Type 0} (r : Option A) (f : A → Option B) (y : B) → (r >>= f) ≡ Some y → (x : A) × (r ≡ Some x) × (f x ≡ Some y)
bind_some (Some x) f y e = (x, refl, e)
bind_some None f y e = absurd cc

is_within : (n c : ℕ) → (is_digit c && ltb n (10 ^ 37)) ≡ true → (48 ≤ c) × (c ≤ 57) × (n < 10 ^ 37)
is_within n c h = grind (arith, nat_tests)

goes_on : (n c : ℕ) → 48 ≤ c → c ≤ 57 → n < 10 ^ 37 → (is_digit c && ltb n (10 ^ 37)) ≡ true
goes_on n c l h k = grind (arith, nat_tests)

one_more : (n c : ℕ) → 0 < n → n < 10 ^ 37 → 48 ≤ c → c ≤ 57 → decimal (n * 10 + (c - 48)) ≡ decimal n ++ (c ∷ [])
one_more n c pos small low high =
    let q : (n * 10 + (c - 48)) / 10 ≡ n = omega arith in
    let r : 48 + (n * 10 + (c - 48)) % 10 ≡ c = omega arith in
    decimal_step_wide (n * 10 + (c - 48)) (omega arith) (omega arith) ∙ ap (λ (k : ℕ). decimal k ++ ((48 + (n * 10 + (c - 48)) % 10) ∷ [])) q ∙ ap (λ (k : ℕ). decimal n ++ (k ∷ [])) r

-- what digits add behind a number, read back
pub value_takes : (cs : List ℕ) (n m : ℕ) → 0 < n → n < 10 ^ 38 → value_from n cs ≡ Some m → (decimal m ≡ decimal n ++ cs) × (m < 10 ^ 38)
value_takes [] n m pos small e = subst (λ (k : ℕ). (decimal k ≡ decimal n ++ []) × (k < 10 ^ 38)) (some_is n m e) (sym (append-nil (decimal n)), small)
value_takes (c ∷ cs) n m pos small e =
    let w = went (is_digit c && ltb n (10 ^ 37)) (value_from (n * 10 + (c - 48)) cs) m e in
    let h = is_within n c w.0 in
    let more = value_takes cs (n * 10 + (c - 48)) m (omega arith) (omega (arith, h.0, h.1, h.2)) w.1 in
    (more.0 ∙ ap (λ (t : List ℕ). t ++ cs) (one_more n c pos h.2 h.0 h.1) ∙ append_assoc (decimal n) (c ∷ []) cs, more.1)

pub value_snoc : (cs : List ℕ) (n m c : ℕ) → value_from n cs ≡ Some m → 48 ≤ c → c ≤ 57 → m < 10 ^ 37 → value_from n (cs ++ c ∷ []) ≡ Some (m * 10 + (c - 48))
value_snoc [] n m c e low high small =
    let same : n ≡ m = some_is n m e in
    rw (goes_on n c low high (omega (arith, same))) (ap (λ (k : ℕ). Some (k * 10 + (c - 48))) same)
value_snoc (d ∷ cs) n m c e low high small =
    let w = went (is_digit d && ltb n (10 ^ 37)) (value_from (n * 10 + (d - 48)) cs) m e in
    rw w.0 (value_snoc cs (n * 10 + (d - 48)) m c w.1 low high small)

value_one : (n : ℕ) → n < 10 → value_from 0 ((48 + n) ∷ []) ≡ Some n
value_one n h =
    let e : 0 * 10 + (48 + n - 48) ≡ n = omega arith in
    rw (goes_on 0 (48 + n) (omega arith) (omega arith) (omega arith)) (ap (λ (k : ℕ). Some k) e)

value_more : (n : ℕ) (ds : List ℕ) → 10 ≤ n → n < 10 ^ 38 → value_from 0 ds ≡ Some (n / 10) → value_from 0 (ds ++ ((48 + n % 10) ∷ [])) ≡ Some n
value_more n ds low small e =
    let back : n / 10 * 10 + (48 + n % 10 - 48) ≡ n = omega arith in
    value_snoc ds 0 (n / 10) (48 + n % 10) e (omega arith) (omega arith) (omega arith) ∙ ap (λ (k : ℕ). Some k) back

pub value_again : (n : ℕ) → n < 10 ^ 38 → value_from 0 (decimal n) ≡ Some n
value_again n small =
    decimal_by_steps_wide (λ n ds. n < 10 ^ 38 → value_from 0 ds ≡ Some n)
    (λ n h _. value_one n h)
    (λ n ds low before small. value_more n ds low small (before (omega arith)))
    n (omega arith) small

-- the first digit of a number over 0
abbrev Leads : List ℕ → Type 0
Leads [] = ⊥
Leads (c ∷ cs) = 48 < c

leads_append : (ds : List ℕ) (c : ℕ) → Leads ds → Leads (ds ++ c ∷ [])
leads_append [] c h = absurd h
leads_append (d ∷ ds) c h = h

leads : (n : ℕ) → n < 10 ^ 38 → 0 < n → Leads (decimal n)
leads n small pos =
    decimal_by_steps_wide (λ n ds. 0 < n → Leads ds) (λ n h pos. omega arith) (λ n ds low before pos. leads_append ds (48 + n % 10) (before (omega arith))) n (omega arith) pos

front_from_leads : (ds : List ℕ) → Leads ds → is_well_led ds ≡ true
front_from_leads [] h = absurd h
front_from_leads (d ∷ ds) h = grind (arith, nat_tests)

front_again : (n : ℕ) → n < 10 ^ 38 → is_well_led (decimal n) ≡ true
front_again zero small = ap is_well_led (decimal_digit 0 (omega arith))
front_again (suc n) small = front_from_leads (decimal (suc n)) (leads (suc n) small (omega arith))

pub number_again : (n : ℕ) → n < 10 ^ 38 → number_of (decimal n) ≡ Some n
unfolding number_of
number_again n small = rw (front_again n small) (value_again n small)

-- a text that begins with 0 is 0 alone
pub value_of_one : (c : ℕ) (cs : List ℕ) (m : ℕ) → value_from 0 (c ∷ cs) ≡ Some m → (48 ≤ c) × (c ≤ 57) × (value_from (c - 48) cs ≡ Some m)
value_of_one c cs m e =
    let w = went (is_digit c && ltb 0 (10 ^ 37)) (value_from (0 * 10 + (c - 48)) cs) m e in
    let h = is_within 0 c w.0 in
    let k : 0 * 10 + (c - 48) ≡ c - 48 = omega arith in
    (h.0, h.1, ap (λ (n : ℕ). value_from n cs) (sym k) ∙ w.1)

pub from_one : (c : ℕ) (cs : List ℕ) (m : ℕ) → 48 < c → value_from 0 (c ∷ cs) ≡ Some m → ((c ∷ cs) ≡ decimal m) × (m < 10 ^ 38)
from_one c cs m low e =
    let w = value_of_one c cs m e in
    let t = value_takes cs (c - 48) m (omega arith) (omega (arith, w.1)) w.2 in
    let digit : decimal (c - 48) ≡ c ∷ [] = decimal_digit (c - 48) (omega (arith, w.1)) ∙ ap (λ (k : ℕ). k ∷ []) (omega arith) in
    (sym (t.0 ∙ ap (λ (x : List ℕ). x ++ cs) digit), t.1)

front_cases : (c : ℕ) (cs : List ℕ) → 48 ≤ c → is_well_led (c ∷ cs) ≡ true → (48 < c) ⊎ ((c ≡ 48) × (length cs ≡ 0))
front_cases c cs low h = grind (arith, nat_tests)

alone : (c : ℕ) (cs : List ℕ) (m : ℕ) → c ≡ 48 → length cs ≡ 0 → value_from 0 (c ∷ cs) ≡ Some m → ((c ∷ cs) ≡ decimal m) × (m < 10 ^ 38)
alone c [] m e empty v =
    let w = value_of_one c [] m v in
    let same : m ≡ 0 = sym (some_is (c - 48) m w.2) ∙ omega arith in
    rw (same, e) (sym (decimal_digit 0 (omega arith)), omega arith)
alone c (d ∷ cs) m e empty v = absurd (omega arith)

numeral_takes : (text : List ℕ) (n : ℕ) → is_well_led text ≡ true → value_from 0 text ≡ Some n → (text ≡ decimal n) × (n < 10 ^ 38)
numeral_takes [] n f e = absurd cc
numeral_takes (c ∷ cs) n f e =
    elim (front_cases c cs (value_of_one c cs n e).0 f) [
      | inl low ↦ from_one c cs n low e
      | inr both ↦ alone c cs n both.0 both.1 e
    ]

pub number_takes : (text : List ℕ) (n : ℕ) → number_of text ≡ Some n → (text ≡ decimal n) × (n < 10 ^ 38)
unfolding number_of
number_takes text n e = let w = went (is_well_led text) (value_from 0 text) n e in numeral_takes text n w.0 w.1

-- digits are no other byte
digit_is_not : (b n c : ℕ) → b < 48 ⊎ 57 < b → (is_digit c && ltb n (10 ^ 37)) ≡ true → not (eqb c b) ≡ true
digit_is_not b n c h e = grind (arith, nat_tests)

pub value_lacks : (b : ℕ) (cs : List ℕ) (n m : ℕ) → b < 48 ⊎ 57 < b → value_from n cs ≡ Some m → lacks b cs ≡ true
value_lacks b [] n m h e = refl
value_lacks b (c ∷ cs) n m h e =
    let w = went (is_digit c && ltb n (10 ^ 37)) (value_from (n * 10 + (c - 48)) cs) m e in
    rw (digit_is_not b n c h w.0) (value_lacks b cs (n * 10 + (c - 48)) m h w.1)

pub decimal_lacks : (b n : ℕ) → b < 48 ⊎ 57 < b → n < 10 ^ 38 → lacks b (decimal n) ≡ true
decimal_lacks b n h small = value_lacks b (decimal n) 0 n h (value_again n small)

-- the value of so many digits
pub value_below : (cs : List ℕ) (n m : ℕ) → value_from n cs ≡ Some m → m + 1 ≤ (n + 1) * 10 ^ length cs
value_below [] n m e = omega (arith, some_is n m e)
value_below (c ∷ cs) n m e =
    let w = went (is_digit c && ltb n (10 ^ 37)) (value_from (n * 10 + (c - 48)) cs) m e in
    let h = is_within n c w.0 in
    let more = value_below cs (n * 10 + (c - 48)) m w.1 in
    let step : (n * 10 + (c - 48) + 1) * 10 ^ length cs ≤ ((n + 1) * 10) * 10 ^ length cs = mul-le-mul_right (10 ^ length cs) (omega (arith, h.0, h.1)) in
    let power : 10 ^ suc (length cs) ≡ 10 * 10 ^ length cs = omega arith in
    rw power (omega (arith, more, step))

-- ---- numbers below 2^64

pub small_takes : (text : List ℕ) (n : ℕ) → small text ≡ Some n → (text ≡ decimal n) × (n < 2 ^ 64)
unfolding small
small_takes text n e =
    let b = bind_some (number_of text) (λ m. cond (ltb m (2 ^ 64)) (Some m) None) n e in
    let w = went (ltb b.0 (2 ^ 64)) (Some b.0) n b.2 in
    let same : b.0 ≡ n = some_is b.0 n w.1 in
    let t = number_takes text b.0 b.1 in
    subst (λ (k : ℕ). (text ≡ decimal k) × (k < 2 ^ 64)) same (t.0, ltb-true b.0 (2 ^ 64) w.0)

pub small_again : (n : ℕ) → n < 2 ^ 64 → small (decimal n) ≡ Some n
unfolding small
small_again n h =
    let test : ltb n (2 ^ 64) ≡ true = grind (arith, nat_tests) in
    rw (number_again n (omega arith), test) refl

pub numbers_are_exact_lem : NumbersAreExact
numbers_are_exact_lem = record {
  numbers = λ text n. (number_takes text n, λ is. ap number_of is.0 ∙ number_again n is.1);
  small_numbers = λ text n. (small_takes text n, λ is. ap small is.0 ∙ small_again n is.1);
  digits = decimal_lacks;
}
