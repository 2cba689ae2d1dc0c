-- A table's automaton is sure where each opening and each entry of the table is.
use Rattle.std.proofs.Common.{◌≡◌, ℕ, zero, suc, ◌+◌, ◌-◌, ◌^◌, ◌<◌, ◌≤◌, ◌&&◌, Bool, true, false, List, [], ◌∷◌, length, get_or, slice_index, refl, ap, sym, ◌∙◌, inl, inr, arith}
use Rattle.std.proofs.lemmas.Bool.{and_from, and_parts, cases_lt, le-leb, lt-leb, lt-ltb, le-ltb}
use Rattle.std.proofs.lemmas.Nat.{pow_pos}
use Rattle.std.proofs.lemmas.List.FromFn.{length-map-range_with_len, get_or-map-range_with_len}
use Rattle.std.specs.List.{list_all}
use Rattle.history_model.specs.Automaton.{Row, no_row}
use Rattle.player_core.specs.Bench.{is_sure}
use Rattle.player_core.specs.Sheet.{SheetData, IsTable, depth}
use Rattle.player_core.specs.Table.{width, base, table_rows, turns_up_to, turns_at, table_weight, table_row, table_automaton}
use Rattle.lab_file.specs.Sure.{is_sure_weight}

base_up : (sheet : SheetData) (low high : ℕ) → low ≤ high → base sheet low ≤ base sheet high
base_up sheet low zero le = let none : low ≡ 0 = omega arith in rw none (omega arith)
base_up sheet low (suc high) le =
    elim (cases_lt high low) [
      | inl past ↦ let same : low ≡ suc high = omega arith in rw same (omega arith)
      | inr under ↦ omega (arith, base_up sheet low high under)
    ]

-- a row that stands for so many turns
turns_found : (sheet : SheetData) (row turns limit : ℕ) → turns ≤ limit → base sheet turns ≤ row → row < base sheet (suc turns)
    → turns_up_to sheet row limit ≡ turns
turns_found sheet row turns zero le low high = omega arith
turns_found sheet row turns (suc limit) le low high =
    elim (cases_lt limit turns) [
      | inl past ↦
          let same : turns ≡ suc limit = omega arith in
          let here : base sheet (suc limit) ≤ row = omega (arith, ap (base sheet) same) in
          rw (le-leb (base sheet (suc limit)) row here) (sym same)
      | inr under ↦
          let above : row < base sheet (suc limit) = omega (arith, base_up sheet (suc turns) (suc limit) (omega arith)) in
          rw (lt-leb (base sheet (suc limit)) row above) (turns_found sheet row turns limit under low high)
    ]

turns_shallow : (sheet : SheetData) (row limit : ℕ) → turns_up_to sheet row limit ≤ limit
turns_shallow sheet row zero = omega arith
turns_shallow sheet row (suc limit) =
    elim (cases_lt row (base sheet (suc limit))) [
      | inl above ↦ rw (lt-leb (base sheet (suc limit)) row above) (omega (arith, turns_shallow sheet row limit))
      | inr here ↦ rw (le-leb (base sheet (suc limit)) row here) (omega arith)
    ]

rows_end : (sheet : SheetData) → table_rows sheet ≡ base sheet (depth sheet) + 2 ^ (sheet.own + sheet.other + sheet.first)
rows_end sheet =
    let more : depth sheet + 1 ≡ suc (depth sheet) = omega arith in
    let all : width sheet (depth sheet) ≡ sheet.own + sheet.other + sheet.first = omega arith in
    omega (arith, ap (base sheet) more, ap (λ e. 2 ^ e) all)

-- the first row of some turns below the depth has their opening
opening_row : (sheet : SheetData) (turns : ℕ) → turns < depth sheet → table_weight sheet (base sheet turns) ≡ slice_index sheet.opening turns
opening_row sheet turns early =
    let at = turns_found sheet (base sheet turns) turns (depth sheet) (omega arith) (omega arith) (omega (arith, pow_pos (width sheet turns))) in
    rw (at, lt-ltb turns (depth sheet) early) refl

first_inside : (sheet : SheetData) (turns : ℕ) → turns < depth sheet → base sheet turns < table_rows sheet
first_inside sheet turns early =
    omega (arith, pow_pos (width sheet turns), base_up sheet (suc turns) (depth sheet + 1) (omega arith))

-- the rows of the depth have the entries
entry_row : (sheet : SheetData) (place : ℕ) → base sheet (depth sheet) + place < table_rows sheet
    → table_weight sheet (base sheet (depth sheet) + place) ≡ slice_index sheet.table place
entry_row sheet place inside =
    let row : ℕ = base sheet (depth sheet) + place in
    let more : depth sheet + 1 ≡ suc (depth sheet) = omega arith in
    let at : turns_at sheet row ≡ depth sheet =
    turns_found sheet row (depth sheet) (depth sheet) (omega arith) (omega arith) (omega (arith, ap (base sheet) more)) in
    let behind : row - base sheet (turns_at sheet row) ≡ place = ap (λ t. row - base sheet t) at ∙ omega arith in
    rw (behind, at, le-ltb (depth sheet) (depth sheet) (omega arith)) refl

-- what passes at every opening and every entry passes at every row
each_row : (sheet : SheetData) (p : ℕ → Bool) (row : ℕ) → IsTable sheet → row < table_rows sheet
    → ((k : ℕ) → k < length sheet.opening → p (slice_index sheet.opening k) ≡ true)
    → ((k : ℕ) → k < length sheet.table → p (slice_index sheet.table k) ≡ true)
    → p (table_weight sheet row) ≡ true
each_row sheet p row table inside openings entries =
    elim (cases_lt (turns_at sheet row) (depth sheet)) [
      | inl early ↦
          rw (lt-ltb (turns_at sheet row) (depth sheet) early)
          (openings (turns_at sheet row) (omega (arith, table.openings)))
      | inr late ↦
          let at : turns_at sheet row ≡ depth sheet = omega (arith, turns_shallow sheet row (depth sheet)) in
          let here : row - base sheet (turns_at sheet row) < length sheet.table =
          omega (arith, ap (base sheet) at, rows_end sheet, table.weights, pow_pos (sheet.own + sheet.other + sheet.first)) in
          rw (le-ltb (turns_at sheet row) (depth sheet) late) (entries (row - base sheet (turns_at sheet row)) here)
    ]

passes_at : {X : Type 0} (p : X → Bool) (xs : List X) (d : X) (k : ℕ) → list_all p xs ≡ true → k < length xs → p (get_or xs k d) ≡ true
passes_at p [] d k all inside = absurd (omega arith)
passes_at p (x ∷ xs) d zero all inside = (and_parts (p x) (list_all p xs) all).0
passes_at p (x ∷ xs) d (suc k) all inside = passes_at p xs d k (and_parts (p x) (list_all p xs) all).1 (omega arith)

passes_all : {X : Type 0} (p : X → Bool) (xs : List X) (d : X) → ((k : ℕ) → k < length xs → p (get_or xs k d) ≡ true) → list_all p xs ≡ true
passes_all p [] d each = refl
passes_all p (x ∷ xs) d each = rw (each 0 (omega arith)) (passes_all p xs d (λ k inside. each (suc k) (omega arith)))

agree : (a b : Bool) → (a ≡ true → b ≡ true) → (b ≡ true → a ≡ true) → a ≡ b
agree true b there back = sym (there refl)
agree false true there back = back refl
agree false false there back = refl

rows_pass : (sheet : SheetData) (p : ℕ → Bool) → list_all (λ (row : Row). p row.weight) (table_automaton sheet).rows ≡ true
    → (row : ℕ) → row < table_rows sheet → p (table_weight sheet row) ≡ true
rows_pass sheet p all row inside =
    let there = get_or-map-range_with_len (table_row sheet) 0 (table_rows sheet) row row no_row inside (omega arith) in
    let here = passes_at (λ (r : Row). p r.weight) (table_automaton sheet).rows no_row row all (omega (arith, length-map-range_with_len (table_row sheet) 0 (table_rows sheet))) in
    ap (λ (r : Row). p r.weight) (sym there) ∙ here

pass_rows : (sheet : SheetData) (p : ℕ → Bool) → ((row : ℕ) → row < table_rows sheet → p (table_weight sheet row) ≡ true)
    → list_all (λ (row : Row). p row.weight) (table_automaton sheet).rows ≡ true
pass_rows sheet p each =
    passes_all (λ (r : Row). p r.weight) (table_automaton sheet).rows no_row
    (λ row inside.
    let low : row < table_rows sheet = omega (arith, inside, length-map-range_with_len (table_row sheet) 0 (table_rows sheet)) in
    ap (λ (r : Row). p r.weight) (get_or-map-range_with_len (table_row sheet) 0 (table_rows sheet) row row no_row low (omega arith)) ∙ each row low)

-- a test of weights passes at every row where it passes at every opening and every entry
weights_pass : (sheet : SheetData) (p : ℕ → Bool) → IsTable sheet
    → list_all (λ (row : Row). p row.weight) (table_automaton sheet).rows ≡ (list_all p sheet.opening && list_all p sheet.table)
weights_pass sheet p table =
    agree _ _
    (λ all.
    and_from (list_all p sheet.opening) (list_all p sheet.table)
    (passes_all p sheet.opening 0
    (λ k inside. ap p (sym (opening_row sheet k (omega (arith, inside, table.openings)))) ∙ rows_pass sheet p all (base sheet k) (first_inside sheet k (omega (arith, inside, table.openings)))))
    (passes_all p sheet.table 0
    (λ k inside.
    let low : base sheet (depth sheet) + k < table_rows sheet = omega (arith, inside, rows_end sheet, table.weights) in
    ap p (sym (entry_row sheet k low)) ∙ rows_pass sheet p all (base sheet (depth sheet) + k) low)))
    (λ both.
    let parts = and_parts (list_all p sheet.opening) (list_all p sheet.table) both in
    pass_rows sheet p
    (λ row inside. each_row sheet p row table inside (λ k low. passes_at p sheet.opening 0 k parts.0 low) (λ k low. passes_at p sheet.table 0 k parts.1 low)))

pub table_sureness : (sheet : SheetData) → IsTable sheet
    → is_sure (table_automaton sheet) ≡ (list_all (is_sure_weight sheet.den) sheet.opening && list_all (is_sure_weight sheet.den) sheet.table)
table_sureness sheet table = weights_pass sheet (is_sure_weight sheet.den) table
