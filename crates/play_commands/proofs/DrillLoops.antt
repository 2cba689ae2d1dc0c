-- The loops of a drill: over the places of its machines, and over their lines.
use Rattle.std.proofs.Common.{◌≡◌, ℕ, suc, ◌+◌, ◌-◌, ◌*◌, ◌^◌, ◌<◌, ◌≤◌, true, false, List, [], ◌∷◌, ◌++◌, length, map, drop, get_or, ℤ, pos, ◌+ℤ◌, ◌≤ℤ◌, refl, sym, ap, ◌∙◌, append_assoc, add-one, drop-cons, arith}
use Rattle.std.specs.List.{All, filter, range_with_len}
use Rattle.std.proofs.lemmas.Int.{ints}
use Rattle.std.proofs.lemmas.List.{map-append}
use Rattle.std.proofs.lemmas.List.FromFn.{get_or-range_with_len, length-range_with_len}
use Rattle.drill.specs.Drill.{drill_name}
use Rattle.player_core.specs.Sheet.{SheetData}
use Rattle.sheet_rules.specs.declared.contestant.Contestant.{Contestant}
use Rattle.result_lines.specs.declared.tables.EntryLine.{EntryLine}
use Rattle.sheet_rules.specs.Entrants.{Entrant, entrant_of, entrants_of}
use Rattle.play_commands.specs.Machines.{IsSmallTotal, is_first, line_at, still, sum_of_totals, total_at}

range_cut : (a n : ℕ) → a < n → range_with_len a (n - a) ≡ a ∷ range_with_len (a + 1) (n - (a + 1))
range_cut a n h =
    let e : n - a ≡ suc (n - (a + 1)) = omega (arith, h) in
    ap (range_with_len a) e

range_end : (a n : ℕ) → n ≤ a → range_with_len a (n - a) ≡ []
range_end a n h = let e : n - a ≡ 0 = omega (arith, h) in ap (range_with_len a) e

pub all_below : (n : ℕ) → All (λ place. place < n) (range_with_len 0 n)
all_below n k d inside =
    let many = length-range_with_len 0 n in
    let at = get_or-range_with_len 0 n k d (omega (arith, inside, many)) in
    omega (arith, at, inside, many)

-- ---- names

pub name_more : (names more all : List (List ℕ)) (name : List ℕ) (place n : ℕ) → place < n → name ≡ drill_name place → more ≡ names ++ name ∷ []
    → names ++ map drill_name (range_with_len place (n - place)) ≡ all → more ++ map drill_name (range_with_len (place + 1) (n - (place + 1))) ≡ all
name_more names more all name place n inside is new so_far =
    let rest : List (List ℕ) = map drill_name (range_with_len (place + 1) (n - (place + 1))) in
    ap (λ (ns : List (List ℕ)). ns ++ rest) new ∙ append_assoc names (name ∷ []) rest ∙ ap (λ (x : List ℕ). names ++ x ∷ rest) is
    ∙ ap (λ (ps : List ℕ). names ++ map drill_name ps) (sym (range_cut place n inside)) ∙ so_far

append_nothing : {A : Type 0} (xs : List A) → xs ++ [] ≡ xs
append_nothing [] = refl
append_nothing (x ∷ xs) = ap (λ ys. x ∷ ys) (append_nothing xs)

pub all_named : (names all : List (List ℕ)) (place n : ℕ) → n ≤ place → names ++ map drill_name (range_with_len place (n - place)) ≡ all → names ≡ all
all_named names all place n past so_far =
    sym (append_nothing names) ∙ ap (λ (ps : List ℕ). names ++ map drill_name ps) (sym (range_end place n past)) ∙ so_far

-- ---- the first rank

-- the machines of the first rank at some places, each with its total
abbrev pub told : List EntryLine → List ℕ → List (ℕ × ℤ)
told entries places = map (total_at entries) (filter (λ place. is_first (line_at entries place).rank) places)

pub told_more : (entries : List EntryLine) (first more all : List (ℕ × ℤ)) (line : ℕ × ℤ) (place n : ℕ) → place < n → is_first (line_at entries place).rank ≡ true → line ≡ total_at entries place
    → more ≡ first ++ line ∷ [] → first ++ told entries (range_with_len place (n - place)) ≡ all → more ++ told entries (range_with_len (place + 1) (n - (place + 1))) ≡ all
told_more entries first more all line place n inside is line_is new so_far =
    let places : List ℕ = range_with_len (place + 1) (n - (place + 1)) in
    let rest : List (ℕ × ℤ) = told entries places in
    let here : told entries (place ∷ places) ≡ total_at entries place ∷ rest = rw is refl in
    ap (λ (ls : List (ℕ × ℤ)). ls ++ rest) new ∙ append_assoc first (line ∷ []) rest ∙ ap (λ (l : ℕ × ℤ). first ++ l ∷ rest) line_is
    ∙ ap (λ (ls : List (ℕ × ℤ)). first ++ ls) (sym here) ∙ ap (λ (ps : List ℕ). first ++ told entries ps) (sym (range_cut place n inside)) ∙ so_far

pub told_less : (entries : List EntryLine) (first all : List (ℕ × ℤ)) (place n : ℕ) → place < n → is_first (line_at entries place).rank ≡ false
    → first ++ told entries (range_with_len place (n - place)) ≡ all → first ++ told entries (range_with_len (place + 1) (n - (place + 1))) ≡ all
told_less entries first all place n inside is so_far =
    let places : List ℕ = range_with_len (place + 1) (n - (place + 1)) in
    let here : told entries (place ∷ places) ≡ told entries places = rw is refl in
    ap (λ (ls : List (ℕ × ℤ)). first ++ ls) (sym here) ∙ ap (λ (ps : List ℕ). first ++ told entries ps) (sym (range_cut place n inside)) ∙ so_far

pub all_told : (entries : List EntryLine) (first all : List (ℕ × ℤ)) (place n : ℕ) → n ≤ place → first ++ told entries (range_with_len place (n - place)) ≡ all → first ≡ all
all_told entries first all place n past so_far =
    sym (append_nothing first) ∙ ap (λ (ps : List ℕ). first ++ told entries ps) (sym (range_end place n past)) ∙ so_far

-- ---- the sum

pub record IsSumUpTo (k : ℕ) (sum : ℤ) (entries : List EntryLine) : Type 0 where
  pub sums : sum +ℤ sum_of_totals (drop k entries) ≡ sum_of_totals entries
  pub low : pos 0 ≤ℤ sum
  pub high : sum ≤ℤ pos (k * 10 ^ 34)

pub sum_more : (k : ℕ) (sum : ℤ) (entries : List EntryLine) (d : EntryLine) → k < length entries → IsSmallTotal (get_or entries k d).total → IsSumUpTo k sum entries
    → IsSumUpTo (k + 1) (sum +ℤ (get_or entries k d).total.lo) entries
sum_more k sum entries d inside small so_far =
    let entry : EntryLine = get_or entries k d in
    let cut : drop k entries ≡ entry ∷ drop (k + 1) entries = drop-cons entries k d inside ∙ ap (λ (n : ℕ). entry ∷ drop n entries) (sym (add-one k)) in
    let there : sum_of_totals (drop k entries) ≡ entry.total.lo +ℤ sum_of_totals (drop (k + 1) entries) = ap sum_of_totals cut in
    record {
      sums = omega (arith, ints, there, so_far.sums);
      low = omega (arith, ints, so_far.low, small.low);
      high = omega (arith, ints, so_far.high, small.ordered, small.high);
    }

-- ---- contestants

pub still_more : (sheets : List SheetData) (contestants more : List Contestant) (contestant : Contestant) (k : ℕ) (d : SheetData) → k < length sheets
    → entrant_of contestant ≡ still (get_or sheets k d) → more ≡ contestants ++ contestant ∷ []
    → entrants_of contestants ++ map still (drop k sheets) ≡ map still sheets → entrants_of more ++ map still (drop (k + 1) sheets) ≡ map still sheets
still_more sheets contestants more contestant k d inside is new so_far =
    let sheet : SheetData = get_or sheets k d in
    let rest : List Entrant = map still (drop (k + 1) sheets) in
    let cut : drop k sheets ≡ sheet ∷ drop (k + 1) sheets = drop-cons sheets k d inside ∙ ap (λ (n : ℕ). sheet ∷ drop n sheets) (sym (add-one k)) in
    ap (λ (cs : List Contestant). entrants_of cs ++ rest) new
    ∙ ap (λ (es : List Entrant). es ++ rest) (map-append entrant_of contestants (contestant ∷ []))
    ∙ append_assoc (entrants_of contestants) (entrant_of contestant ∷ []) rest
    ∙ ap (λ (e : Entrant). entrants_of contestants ++ e ∷ rest) is
    ∙ ap (λ (ss : List SheetData). entrants_of contestants ++ map still ss) (sym cut) ∙ so_far
