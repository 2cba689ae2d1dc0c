-- Records of four fields, and numerals.
use Rattle.std.proofs.Common.{◌≡◌, ℕ, suc, ◌+◌, ◌*◌, ◌-◌, ◌≤◌, ◌<◌, ◌&&◌, ◌==◌, Bool, false, true, List, [], ◌∷◌, codes, drop, get_or, length, Option, None, option_map, option_and_then, if◌then◌else◌, refl, arith}
use Rattle.std.proofs.Math.Seq.{drop-cons}
use Rattle.std.proofs.lemmas.Bool.Decides.{nat_tests}
use Rattle.std.specs.Char.{digit_value, is_ascii_digit}
use Rattle.std.specs.List.{list_all}
use Rattle.std.specs.Str.Parse.{digits_value_after}
use Rattle.csv.specs.Records.{field_at}
use Rattle.machine_rows.specs.declared.transition.Transition.{Transition}
use Rattle.strategy_file.specs.CsvRows.{is_head, row_of_record, state_of, word_at}
use Rattle.strategy_file.specs.TomlRows.{move_of}

long : (a b c d e : List ℕ) (more : List (List ℕ)) → (length (a ∷ b ∷ c ∷ d ∷ e ∷ more) == 4) ≡ false
long a b c d e more = grind arith

-- a row by its fields' places
abbrev pub row_at : List (List ℕ) → Option Transition
row_at fields =
    option_and_then (λ s. option_and_then (λ h. option_and_then (λ n. option_map (λ p. record { state = s; heard = h; next = n; play = p })
    (option_and_then move_of (field_at fields 3))) (option_and_then state_of (field_at fields 2)))
    (option_and_then move_of (field_at fields 1))) (option_and_then state_of (field_at fields 0))

pub row_by_fields : (fields : List (List ℕ)) → row_of_record fields ≡ (if length fields == 4 then row_at fields else None)
unfolding field_at
row_by_fields [] = refl
row_by_fields (a ∷ []) = refl
row_by_fields (a ∷ b ∷ []) = refl
row_by_fields (a ∷ b ∷ c ∷ []) = refl
row_by_fields (a ∷ b ∷ c ∷ d ∷ []) = refl
row_by_fields (a ∷ b ∷ c ∷ d ∷ e ∷ more) = rw (long a b c d e more) refl

pub head_by_words : (fields : List (List ℕ))
    → is_head fields ≡ ((((length fields == 4 && word_at fields 0 (codes "state")) && word_at fields 1 (codes "heard")) && word_at fields 2 (codes "next")) && word_at fields 3 (codes "play"))
unfolding field_at
head_by_words [] = refl
head_by_words (a ∷ []) = refl
head_by_words (a ∷ b ∷ []) = refl
head_by_words (a ∷ b ∷ c ∷ []) = refl
head_by_words (a ∷ b ∷ c ∷ d ∷ []) = refl
head_by_words (a ∷ b ∷ c ∷ d ∷ e ∷ more) = rw (long a b c d e more) refl

-- further digits make no number less
pub grows : (n : ℕ) (digits : List ℕ) → n ≤ digits_value_after 10 n digits
grows n [] = omega arith
grows n (c ∷ digits) = omega (arith, grows (n * 10 + digit_value c) digits)

digit_is : (d : ℕ) → is_ascii_digit d ≡ true → digit_value d ≡ d - 48
digit_is d digit = grind (arith, nat_tests)

first_is : (p : ℕ → Bool) (d : ℕ) (digits : List ℕ) → list_all p (d ∷ digits) ≡ true → p d ≡ true
first_is p d digits all = grind arith

-- a number that is too great at one digit is so at the last
pub too_great : (n i limit : ℕ) (digits : List ℕ) → i < length digits → list_all is_ascii_digit (drop i digits) ≡ true
    → limit < 10 * n + (get_or digits i 0 - 48) → limit < digits_value_after 10 n (drop i digits)
too_great n i limit digits inside all more =
    let d = get_or digits i 0 in
    let front : drop i digits ≡ d ∷ drop (suc i) digits = drop-cons digits i 0 inside in
    let value = digit_is d (first_is is_ascii_digit d (drop (suc i) digits) (rw front at all)) in
    rw front (omega (arith, grows (n * 10 + digit_value d) (drop (suc i) digits), value, more))
