-- Marks of any size, and as the code holds them.
use Rattle.std.proofs.Common.{◌≡◌, ℕ, suc, ◌+◌, ◌*◌, ◌-◌, ◌^◌, ◌<◌, ◌≤◌, true, cond, ltb, ◌&&◌, List, [], ◌∷◌, length, get_or, drop, Some, None, refl, sym, ap, ◌∙◌, add-one, arith, inl, inr}
use Rattle.std.specs.Fmt.{decimal}
use Rattle.std.specs.List.{list_all}
use Rattle.std.proofs.Math.Seq.{drop-cons}
use Rattle.std.proofs.lemmas.Bool.Decides.{nat_tests}
use Rattle.std.proofs.lemmas.List.{drop_all}
use Rattle.texts.specs.Forms.{IsField}
use Rattle.texts.specs.Numbers.{is_digit, is_well_led, number_of, value_from}
use Rattle.texts.proofs.NumberLaws.{some_is, went}
use Rattle.rota_rows.proofs.FieldLaws.{Below, both_true, ltb_is, number_lacks}
use Rattle.checkpoint.specs.Marks.{any_mark, any_number_of, capped, capped_from, number_from}

-- ---- as the code holds them

more_capped : (a b d : ℕ) → capped a ≡ capped b → capped (a * 10 + d) ≡ capped (b * 10 + d)
more_capped a b d h = omega (arith, h)

-- digits behind two numbers that are capped alike
capped_on : (cs : List ℕ) (a b : ℕ) → capped a ≡ capped b → capped (number_from a cs) ≡ capped (number_from b cs)
capped_on [] a b h = h
capped_on (c ∷ cs) a b h = capped_on cs (a * 10 + (c - 48)) (b * 10 + (c - 48)) (more_capped a b (c - 48) h)

capped_more : (n m c : ℕ) (cs : List ℕ) → is_digit c ≡ true → m ≡ capped (n * 10 + (c - 48)) → capped_from m cs ≡ capped_from n (c ∷ cs)
capped_more n m c cs digit is =
    let whole : ℕ = n * 10 + (c - 48) in
    let same : capped m ≡ capped whole = omega (arith, is) in
    rw digit (ap (λ (k : ℕ). cond (list_all is_digit cs) (Some k) None) (capped_on cs m whole same))

-- one digit is read, and those behind it are left
pub capped_went : (text : List ℕ) (i n m : ℕ) → i < length text → is_digit (get_or text i 0) ≡ true → m ≡ capped (n * 10 + (get_or text i 0 - 48))
    → capped_from m (drop (i + 1) text) ≡ capped_from n (drop i text)
capped_went text i n m within digit is =
    rw (add-one i, drop-cons text i 0 within) (capped_more n m (get_or text i 0) (drop (suc i) text) digit is)

pub capped_small : (n : ℕ) → n ≤ 4294967295 → capped n ≡ n
capped_small n h = omega (arith, h)

-- all digits are read
pub capped_end : (text : List ℕ) (i n : ℕ) → length text ≤ i → n ≤ 4294967295 → Some n ≡ capped_from n (drop i text)
capped_end text i n past small = rw (drop_all i text past) (ap (λ (k : ℕ). Some k) (sym (capped_small n small)))

-- a number below the cap is not changed, and one above it stays above
pub capped_test : (n most : ℕ) → most ≤ 4294967295 → ltb (capped n) most ≡ ltb n most
capped_test n most h = grind (arith, nat_tests)

-- ---- numbers that can be marks are read exactly

least : (cs : List ℕ) (n : ℕ) → n ≤ number_from n cs
least [] n = omega arith
least (c ∷ cs) n = omega (arith, least cs (n * 10 + (c - 48)))

goes_on : (c n : ℕ) → is_digit c ≡ true → n < 10 ^ 37 → (is_digit c && ltb n (10 ^ 37)) ≡ true
goes_on c n digit small = rw digit (grind (arith, nat_tests))

value_is : (cs : List ℕ) (n : ℕ) → list_all is_digit cs ≡ true → number_from n cs < 10 ^ 38 → value_from n cs ≡ Some (number_from n cs)
value_is [] n h small = refl
value_is (c ∷ cs) n h small =
    let p = both_true (is_digit c) (list_all is_digit cs) h in
    let few : n < 10 ^ 37 = omega (arith, least cs (n * 10 + (c - 48)), small) in
    rw (goes_on c n p.0 few) (value_is cs (n * 10 + (c - 48)) p.1 small)

value_back : (cs : List ℕ) (n m : ℕ) → value_from n cs ≡ Some m → (list_all is_digit cs ≡ true) × (number_from n cs ≡ m)
value_back [] n m e = (refl, some_is n m e)
value_back (c ∷ cs) n m e =
    let w = went (is_digit c && ltb n (10 ^ 37)) (value_from (n * 10 + (c - 48)) cs) m e in
    let p = both_true (is_digit c) (ltb n (10 ^ 37)) w.0 in
    let more = value_back cs (n * 10 + (c - 48)) m w.1 in
    (rw (p.0, more.0) refl, more.1)

any_from_number : (t : List ℕ) (n : ℕ) → number_of t ≡ Some n → any_number_of t ≡ Some n
unfolding any_number_of number_of
any_from_number t n e =
    let w = went (is_well_led t) (value_from 0 t) n e in
    let v = value_back t 0 n w.1 in
    rw (w.0, v.0, v.1) refl

number_from_any : (t : List ℕ) (n : ℕ) → any_number_of t ≡ Some n → n < 2 ^ 32 → number_of t ≡ Some n
unfolding any_number_of number_of
number_from_any t n e small =
    let w = went (is_well_led t && list_all is_digit t) (Some (number_from 0 t)) n e in
    let p = both_true (is_well_led t) (list_all is_digit t) w.0 in
    let is : number_from 0 t ≡ n = some_is (number_from 0 t) n w.1 in
    rw p.0 (value_is t 0 p.1 (omega (arith, is, small)) ∙ ap (λ (k : ℕ). Some k) is)

few : (n : ℕ) → ltb n (2 ^ 32) ≡ true → n ≤ 2 * 10 ^ 12
few n h = omega (arith, ltb_is n (2 ^ 32) h)

pub any_takes : Below → (t : List ℕ) (n : ℕ) → any_number_of t ≡ Some n → n < 2 ^ 32 → t ≡ decimal n
any_takes l t n e small = ((l.numbers.numbers t n).0 (number_from_any t n e small)).0

any_again : Below → (n : ℕ) → ltb n (2 ^ 32) ≡ true → any_number_of (decimal n) ≡ Some n
any_again l n h = any_from_number (decimal n) n ((l.numbers.numbers (decimal n) n).1 (refl, omega (arith, few n h)))

pub any_field : Below → IsField any_mark
any_field l = record {
  again = any_again l;
  one_field = λ n h. number_lacks l 124 n (inr refl) (few n h);
  one_line = λ n h. number_lacks l 10 n (inl refl) (few n h);
}

pub no_number : any_number_of [] ≡ None
unfolding any_number_of
no_number = refl
