-- The rows of a table, by the turns and the plays that they stand for.
use Rattle.std.proofs.Common.{◌≡◌, ℕ, zero, suc, ◌+◌, ◌-◌, ◌*◌, ◌/◌, ◌%◌, ◌^◌, ◌<◌, ◌≤◌, min, refl, ap, sym, ◌∙◌, inl, inr, arith, nat_lt, slice_index, if◌then◌else◌}
use Rattle.std.proofs.Math.Nat.{pow-le-pow_right, pow-suc, mod-lt, div-lt_iff_lt-mul}
use Rattle.std.proofs.lemmas.Nat.{mod-mul-add, div-mul-add, mul-add-lt, pow-add, pow_pos}
use Rattle.std.proofs.lemmas.Bool.{cases_lt, le-leb, lt-leb, lt-ltb, le-ltb}
use Rattle.history_model.specs.declared.moves.Move.{Move}
use Rattle.player_core.specs.Sheet.{SheetData, depth, digit}
use Rattle.player_core.specs.Table.{Seen, width, base, table_rows, row_of_seen, seen_after, turns_up_to, turns_at, seen_at, table_weight, table_next}
use Rattle.lookup_player.specs.Lookup.{IsSeen}
use Rattle.lookup_player.proofs.Numbers.{digit_below}

pub at_most : (width most : ℕ) → width ≤ most → 2 ^ width ≤ 2 ^ most
at_most width most le = pow-le-pow_right (omega arith) le

pub few_plays : (plays turns looks : ℕ) → plays < 2 ^ min turns looks → looks ≤ 4 → plays < 16
few_plays plays turns looks below few = omega (arith, at_most (min turns looks) 4 (omega arith))

pub three_sorts : (i j k : ℕ) → 2 ^ i * 2 ^ j * 2 ^ k ≡ 2 ^ (i + j + k)
three_sorts i j k = sym (pow-add 2 (i + j) k ∙ ap (λ p. p * 2 ^ k) (pow-add 2 i j))

pub base_grows : (sheet : SheetData) (low high : ℕ) → low ≤ high → base sheet low ≤ base sheet high
base_grows sheet low zero le = let none : low ≡ 0 = omega arith in rw none (omega arith)
base_grows sheet low (suc high) le =
    elim (cases_lt high low) [
      | inl past ↦ let same : low ≡ suc high = omega arith in rw same (omega arith)
      | inr under ↦ omega (arith, base_grows sheet low high under)
    ]

pub base_more : (sheet : SheetData) (turns : ℕ) → base sheet (turns + 1) ≡ base sheet turns + 2 ^ width sheet turns
base_more sheet turns = let more : turns + 1 ≡ suc turns = omega arith in ap (base sheet) more

pub rows_more : (sheet : SheetData) (turns fewer owns others firsts : ℕ) → fewer ≡ base sheet turns
    → owns ≡ 2 ^ min turns sheet.own → others ≡ 2 ^ min turns sheet.other → firsts ≡ 2 ^ min turns sheet.first
    → fewer + owns * others * firsts ≡ base sheet (turns + 1)
rows_more sheet turns fewer owns others firsts a b c d =
    rw (a, b, c, d) (ap (λ p. base sheet turns + p) (three_sorts _ _ _) ∙ sym (base_more sheet turns))

-- a row that stands for so many turns
turns_found : (sheet : SheetData) (row turns limit : ℕ) → turns ≤ limit → base sheet turns ≤ row → row < base sheet (suc turns)
    → turns_up_to sheet row limit ≡ turns
turns_found sheet row turns zero le low high = omega arith
turns_found sheet row turns (suc limit) le low high =
    elim (cases_lt limit turns) [
      | inl past ↦
          let same : turns ≡ suc limit = omega arith in
          let here : base sheet (suc limit) ≤ row = omega (arith, ap (base sheet) same) in
          rw (le-leb (base sheet (suc limit)) row here) (sym same)
      | inr under ↦
          let above : row < base sheet (suc limit) = omega (arith, base_grows sheet (suc turns) (suc limit) (omega arith)) in
          rw (lt-leb (base sheet (suc limit)) row above) (turns_found sheet row turns limit under low high)
    ]

pub turns_here : (sheet : SheetData) (turns place : ℕ) → turns ≤ depth sheet → place < 2 ^ width sheet turns
    → turns_at sheet (base sheet turns + place) ≡ turns
turns_here sheet turns place shallow inside =
    turns_found sheet (base sheet turns + place) turns (depth sheet) shallow (omega arith) (omega arith)

-- what a place among the rows of so many turns stands for
abbrev pub seen_of_place : SheetData → ℕ → ℕ → Seen
seen_of_place sheet turns place =
    let others = 2 ^ min turns sheet.other in
    let firsts = 2 ^ min turns sheet.first in
    record { turns = turns; own = place / firsts / others; other = place / firsts % others; first = place % firsts }

behind_base : (sheet : SheetData) (turns place : ℕ) → turns ≤ depth sheet → place < 2 ^ width sheet turns
    → base sheet turns + place - base sheet (turns_at sheet (base sheet turns + place)) ≡ place
behind_base sheet turns place shallow inside =
    ap (λ t. base sheet turns + place - base sheet t) (turns_here sheet turns place shallow inside) ∙ omega arith

pub seen_here : (sheet : SheetData) (turns place : ℕ) → turns ≤ depth sheet → place < 2 ^ width sheet turns
    → seen_at sheet (base sheet turns + place) ≡ seen_of_place sheet turns place
seen_here sheet turns place shallow inside =
    ap (λ t. seen_of_place sheet t (base sheet turns + place - base sheet (turns_at sheet (base sheet turns + place)))) (turns_here sheet turns place shallow inside)
    ∙ ap (seen_of_place sheet turns) (behind_base sheet turns place shallow inside)

-- the opening or the entry of a place
abbrev pub weight_of_place : SheetData → ℕ → ℕ → ℕ
weight_of_place sheet turns place =
    if nat_lt turns (depth sheet) then slice_index sheet.opening turns else slice_index sheet.table place

pub weight_here : (sheet : SheetData) (turns place : ℕ) → turns ≤ depth sheet → place < 2 ^ width sheet turns
    → table_weight sheet (base sheet turns + place) ≡ weight_of_place sheet turns place
weight_here sheet turns place shallow inside =
    ap (λ t. weight_of_place sheet t (base sheet turns + place - base sheet (turns_at sheet (base sheet turns + place)))) (turns_here sheet turns place shallow inside)
    ∙ ap (weight_of_place sheet turns) (behind_base sheet turns place shallow inside)

pub weight_early : (sheet : SheetData) (turns place : ℕ) → turns < depth sheet → place < 2 ^ width sheet turns
    → slice_index sheet.opening turns ≡ table_weight sheet (base sheet turns + place)
weight_early sheet turns place early inside =
    rw (weight_here sheet turns place (omega arith) inside, lt-ltb turns (depth sheet) early) refl

pub weight_late : (sheet : SheetData) (turns place : ℕ) → turns ≤ depth sheet → depth sheet ≤ turns → place < 2 ^ width sheet turns
    → slice_index sheet.table place ≡ table_weight sheet (base sheet turns + place)
weight_late sheet turns place shallow late inside =
    rw (weight_here sheet turns place shallow inside, le-ltb turns (depth sheet) late) refl

-- the place of what is seen, among the rows of its turns
abbrev pub place_of : SheetData → Seen → ℕ
place_of sheet seen = (seen.own * 2 ^ min seen.turns sheet.other + seen.other) * 2 ^ min seen.turns sheet.first + seen.first

place_below : (own other first i j k : ℕ) → own < 2 ^ i → other < 2 ^ j → first < 2 ^ k
    → (own * 2 ^ j + other) * 2 ^ k + first < 2 ^ (i + j + k)
place_below own other first i j k own_fits other_fits first_fits =
    let before : own * 2 ^ j + other < 2 ^ (i + j) =
    omega (arith, mul-add-lt own (2 ^ j) other (2 ^ i) own_fits other_fits, pow-add 2 i j) in
    omega (arith, mul-add-lt (own * 2 ^ j + other) (2 ^ k) first (2 ^ (i + j)) before first_fits, pow-add 2 (i + j) k)

pub place_inside : (sheet : SheetData) (seen : Seen) → IsSeen sheet seen → place_of sheet seen < 2 ^ width sheet seen.turns
place_inside sheet seen is =
    place_below seen.own seen.other seen.first (min seen.turns sheet.own) (min seen.turns sheet.other) (min seen.turns sheet.first) is.own is.other is.first

taken_apart : (turns own other first others firsts : ℕ) → other < others → first < firsts
    → (let place = (own * others + other) * firsts + first in
    record { turns = turns; own = place / firsts / others; other = place / firsts % others; first = place % firsts })
    ≡ (let seen : Seen = record { turns = turns; own = own; other = other; first = first } in seen)
taken_apart turns own other first others firsts other_fits first_fits =
    let upper = div-mul-add (own * others + other) firsts first first_fits in
    rw (upper, div-mul-add own others other other_fits, mod-mul-add own others other other_fits, mod-mul-add (own * others + other) firsts first first_fits) refl

quotient_below : (place i j k : ℕ) → place < 2 ^ (i + j + k) → place / 2 ^ k / 2 ^ j < 2 ^ i
quotient_below place i j k inside =
    (div-lt_iff_lt-mul (pow_pos j)).1 ((div-lt_iff_lt-mul (pow_pos k)).1 (omega (arith, three_sorts i j k)))

pub seen_inside : (sheet : SheetData) (turns place : ℕ) → turns ≤ depth sheet → place < 2 ^ width sheet turns
    → IsSeen sheet (seen_of_place sheet turns place)
seen_inside sheet turns place shallow inside =
    record {
      turns = shallow;
      own = quotient_below place (min turns sheet.own) (min turns sheet.other) (min turns sheet.first) inside;
      other = mod-lt (place / 2 ^ min turns sheet.first) (pow_pos (min turns sheet.other));
      first = mod-lt place (pow_pos (min turns sheet.first));
    }

-- the row of what is seen stands for it
pub seen_again : (sheet : SheetData) (seen : Seen) → IsSeen sheet seen → seen_at sheet (row_of_seen sheet seen) ≡ seen
seen_again sheet seen is =
    seen_here sheet seen.turns (place_of sheet seen) is.turns (place_inside sheet seen is)
    ∙ taken_apart seen.turns seen.own seen.other seen.first (2 ^ min seen.turns sheet.other) (2 ^ min seen.turns sheet.first) is.other is.first

-- it is one of the rows
pub row_inside : (sheet : SheetData) (seen : Seen) → IsSeen sheet seen → row_of_seen sheet seen < table_rows sheet
row_inside sheet seen is =
    omega (arith, place_inside sheet seen is, base_grows sheet (suc seen.turns) (depth sheet + 1) (omega (arith, is.turns)))

-- each row stands for some turns and a place
pub turns_shallow : (sheet : SheetData) (row limit : ℕ) → turns_up_to sheet row limit ≤ limit
turns_shallow sheet row zero = omega arith
turns_shallow sheet row (suc limit) =
    elim (cases_lt row (base sheet (suc limit))) [
      | inl above ↦ rw (lt-leb (base sheet (suc limit)) row above) (omega (arith, turns_shallow sheet row limit))
      | inr here ↦ rw (le-leb (base sheet (suc limit)) row here) (omega arith)
    ]

-- what is seen after a play is seen by the table
first_kept : (turns looks depth first : ℕ) (heard : Move) → turns ≤ depth → looks ≤ depth → first < 2 ^ min turns looks
    → (if nat_lt turns looks then 2 * first + digit heard else first) < 2 ^ min (min (turns + 1) depth) looks
first_kept turns looks depth first heard shallow within fits =
    elim (cases_lt turns looks) [
      | inl room ↦
          let before : min turns looks ≡ turns = omega arith in
          let after : min (min (turns + 1) depth) looks ≡ suc turns = omega arith in
          rw (lt-ltb turns looks room, after) (omega (arith, digit_below heard, pow-suc 2 turns, ap (λ e. 2 ^ e) before))
      | inr full ↦
          let same : min (min (turns + 1) depth) looks ≡ min turns looks = omega arith in
          rw (le-ltb turns looks full, same) fits
    ]

pub seen_next : (sheet : SheetData) (seen : Seen) (mine theirs : Move) → seen.turns ≤ depth sheet → seen.first < 2 ^ min seen.turns sheet.first
    → IsSeen sheet (seen_after sheet seen mine theirs)
seen_next sheet seen mine theirs shallow fits =
    record {
      turns = omega arith;
      own = mod-lt (2 * seen.own + digit mine) (pow_pos (min (min (seen.turns + 1) (depth sheet)) sheet.own));
      other = mod-lt (2 * seen.other + digit theirs) (pow_pos (min (min (seen.turns + 1) (depth sheet)) sheet.other));
      first = first_kept seen.turns sheet.first (depth sheet) seen.first theirs shallow (omega arith) fits;
    }

-- each row leads to a row
pub next_inside : (sheet : SheetData) (row : ℕ) (mine theirs : Move) → table_next sheet row mine theirs < table_rows sheet
next_inside sheet row mine theirs =
    let turns = turns_at sheet row in
    row_inside sheet (seen_after sheet (seen_at sheet row) mine theirs)
    (seen_next sheet (seen_at sheet row) mine theirs (turns_shallow sheet row (depth sheet))
    (mod-lt (row - base sheet turns) (pow_pos (min turns sheet.first))))
