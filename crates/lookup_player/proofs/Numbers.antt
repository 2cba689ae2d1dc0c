-- Moves as binary numbers.
use Rattle.std.proofs.Common.{◌≡◌, ℕ, ◌+◌, ◌-◌, ◌*◌, ◌/◌, ◌%◌, ◌^◌, ◌<◌, ◌≤◌, List, [], ◌∷◌, ◌++◌, length, fold, take, drop, min, refl, ap, sym, ◌∙◌, inl, inr, arith, length-drop, length-append}
use Rattle.std.proofs.Math.Nat.{mod-eq_of_lt, pow-suc, add-mul-mod_self_right}
use Rattle.std.proofs.lemmas.Nat.{mod-mul-add, div-add-mod'}
use Rattle.std.proofs.lemmas.List.{take-append-drop, take-append-le, take_all}
use Rattle.std.proofs.lemmas.List.Sums.{fold-append}
use Rattle.std.proofs.lemmas.Bool.{cases_lt}
use Rattle.history_model.specs.declared.moves.Move.{Move}
use Rattle.history_model.specs.declared.moves.Move.TheVariants.{C, D}
use Rattle.player_core.specs.Sheet.{digit}
use Rattle.player_core.specs.Rule.{last, moves_number}

pub digit_below : (move : Move) → digit move < 2
digit_below C = omega arith
digit_below D = omega arith

-- a number with one digit more
abbrev behind : ℕ → Move → ℕ
behind n move = 2 * n + digit move

-- a number before digits counts as often as they have choices
before_digits : (n : ℕ) (moves : List Move) → fold behind n moves ≡ n * 2 ^ length moves + moves_number moves
before_digits n [] = omega arith
before_digits n (move ∷ moves) =
    let after : fold behind n (move ∷ moves) ≡ (2 * n + digit move) * 2 ^ length moves + moves_number moves = before_digits (behind n move) moves in
    let alone : moves_number (move ∷ moves) ≡ (2 * 0 + digit move) * 2 ^ length moves + moves_number moves = before_digits (behind 0 move) moves in
    let double : n * 2 ^ length (move ∷ moves) ≡ n * (2 ^ length moves * 2) = ap (λ p. n * p) (pow-suc 2 (length moves)) in
    omega arith

pub number_below : (moves : List Move) → moves_number moves < 2 ^ length moves
number_below [] = omega arith
number_below (C ∷ moves) = omega (arith, number_below moves, pow-suc 2 (length moves))
number_below (D ∷ moves) = omega (arith, number_below moves, before_digits 1 moves, pow-suc 2 (length moves))

pub number_append : (older newer : List Move) → moves_number (older ++ newer) ≡ moves_number older * 2 ^ length newer + moves_number newer
number_append older newer = fold-append behind 0 older newer ∙ before_digits (moves_number older) newer

number_push : (moves : List Move) (move : Move) → moves_number (moves ++ move ∷ []) ≡ 2 * moves_number moves + digit move
number_push moves move = fold-append behind 0 moves (move ∷ [])

pub length_last : (n : ℕ) (moves : List Move) → length (last n moves) ≡ min (length moves) n
length_last n moves = omega (arith, length-drop (length moves - n) moves)

pub last_all : (n : ℕ) (moves : List Move) → length moves ≤ n → last n moves ≡ moves
last_all n moves short =
    let none : length moves - n ≡ 0 = omega arith in
    rw none refl

-- the last n of at least n moves are what is left of the number modulo 2 ^ n
last_of : (n : ℕ) (moves : List Move) → n ≤ length moves → moves_number (last n moves) ≡ moves_number moves % 2 ^ n
last_of n moves long =
    let k : ℕ = length moves - n in
    let newer = drop k moves in
    let many : length newer ≡ n = omega (arith, length-drop k moves) in
    let split : moves_number moves ≡ moves_number (take k moves) * 2 ^ n + moves_number newer =
    ap moves_number (sym (take-append-drop k moves)) ∙ number_append (take k moves) newer ∙ ap (λ e. moves_number (take k moves) * 2 ^ e + moves_number newer) many in
    let few : moves_number newer < 2 ^ n = omega (arith, number_below newer, ap (λ e. 2 ^ e) many) in
    sym (ap (λ x. x % 2 ^ n) split ∙ mod-mul-add (moves_number (take k moves)) (2 ^ n) (moves_number newer) few)

-- a digit more, with what is above a modulus lost before or after
lost_before : (n w b : ℕ) → (2 * (n % w) + b) % w ≡ (2 * n + b) % w
lost_before n w b =
    let split : 2 * n + b ≡ (2 * (n % w) + b) + 2 * (n / w) * w = omega (arith, div-add-mod' n w) in
    sym (ap (λ x. x % w) split ∙ add-mul-mod_self_right (2 * (n % w) + b) (2 * (n / w)) w)

last_of_more : (n : ℕ) (moves : List Move) (move : Move) → n ≤ length moves →
    moves_number (last n (moves ++ move ∷ [])) ≡ (2 * moves_number (last n moves) + digit move) % 2 ^ n
last_of_more n moves move long =
    last_of n (moves ++ move ∷ []) (omega (arith, length-append moves (move ∷ []))) ∙ ap (λ x. x % 2 ^ n) (number_push moves move)
    ∙ sym (ap (λ x. (2 * x + digit move) % 2 ^ n) (last_of n moves long) ∙ lost_before (moves_number moves) (2 ^ n) (digit move))

all_of_more : (n : ℕ) (moves : List Move) (move : Move) → length moves < n →
    moves_number (last n (moves ++ move ∷ [])) ≡ (2 * moves_number (last n moves) + digit move) % 2 ^ (length moves + 1)
all_of_more n moves move short =
    let whole : List Move = moves ++ move ∷ [] in
    let one_more : length whole ≡ length moves + 1 = omega (arith, length-append moves (move ∷ [])) in
    let few : 2 * moves_number moves + digit move < 2 ^ (length moves + 1) =
    omega (arith, number_below whole, number_push moves move, ap (λ e. 2 ^ e) one_more) in
    rw (last_all n whole (omega arith), last_all n moves (omega arith))
    (number_push moves move ∙ sym (mod-eq_of_lt few))

-- the last n of one move more
pub last_more : (n turns : ℕ) (moves : List Move) (move : Move) → min turns n ≡ min (length moves + 1) n →
    moves_number (last n (moves ++ move ∷ [])) ≡ (2 * moves_number (last n moves) + digit move) % 2 ^ min turns n
last_more n turns moves move room =
    elim (cases_lt (length moves) n) [
      | inl short ↦ let room_is : min turns n ≡ length moves + 1 = omega arith in rw room_is (all_of_more n moves move short)
      | inr long ↦ let room_is : min turns n ≡ n = omega arith in rw room_is (last_of_more n moves move long)
    ]

-- the first n of one move more
pub first_more : (n : ℕ) (moves : List Move) (move : Move) → length moves < n →
    moves_number (take n (moves ++ move ∷ [])) ≡ 2 * moves_number (take n moves) + digit move
first_more n moves move short =
    rw (take_all n (moves ++ move ∷ []) (omega (arith, length-append moves (move ∷ []))), take_all n moves (omega arith)) (number_push moves move)

pub first_full : (n : ℕ) (moves : List Move) (move : Move) → n ≤ length moves → take n (moves ++ move ∷ []) ≡ take n moves
first_full n moves move long = take-append-le n moves (move ∷ []) long
