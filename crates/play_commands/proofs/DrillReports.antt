-- The report that is made of a drill's machines can be made, and is right.
use Rattle.std.proofs.Common.{◌≡◌, ℕ, ◌*◌, ◌^◌, ◌<◌, ◌≤◌, ◌==◌, List, [], ◌∷◌, length, map, get_or, ℤ, pos, ◌≤ℤ◌, Result, Ok, Err, IfOk, refl, sym, ◌∙◌, ap, subst, arith}
use Rattle.std.specs.List.{All, AllZip, filter, range_with_len}
use Rattle.std.proofs.lemmas.Int.{ints}
use Rattle.std.proofs.lemmas.List.{length-map}
use Rattle.std.proofs.lemmas.List.Sums.{length-filter, count_by-le-length}
use Rattle.std.proofs.lemmas.List.Elements.{All-head, All-tail, All-filter, All-map}
use Rattle.std.proofs.lemmas.List.FromFn.{get_or-map-range_with_len, length-map-range_with_len, length-range_with_len}
use Rattle.player_core.specs.State.{BenchState, Lasting, players_of}
use Rattle.player_core.specs.Fits.{SidesFit}
use Rattle.player_core.specs.Sheet.{SheetData}
use Rattle.fixed_span.specs.Span.{Fraction}
use Rattle.result_lines.specs.declared.tables.EntryLine.{EntryLine}
use Rattle.round_robin.specs.Asked.{AreAsked, bench_turns}
use Rattle.round_robin.specs.Truth.{nothing, true_rank}
use Rattle.report_rules.specs.declared.report.Report.{Report}
use Rattle.report_names.specs.Names.{name_at}
use Rattle.report_rules.specs.Text.{report_text}
use Rattle.report_rules.specs.Valid.{IsFirstOf, IsTotal, IsValid, first_names}
use Rattle.report_making.specs.Made.{ShowsFirst, drill_report_of, first_order, moved_first}
use Rattle.drill.specs.Drill.{drill_name, drill_sheets}
use Rattle.play_commands.specs.Machines.{IsSmallTotal, IsTold, IsWhole, drill_job, drill_pairs, first_of, first_places, is_first, line_at, machine_strategies, no_line, sum_of, sum_of_totals, total_at}
use Rattle.play_commands.specs.RightDrill.{IsAskedDrill, IsRightDrill, drill_totals}
use Rattle.play_commands.proofs.DrillLoops.{all_below}
use Rattle.play_commands.proofs.Tables.{first_same, rest_same}

places_below : (totals : List Fraction) → All (λ place. place < 64) (first_places totals)
unfolding first_places
places_below totals = All-filter (λ place. true_rank totals place == 1) (λ place. place < 64) (range_with_len 0 64) (all_below 64)

-- the machine at each place has its name
named : (names : List (List ℕ)) (entries : List EntryLine) → names ≡ map drill_name (range_with_len 0 64) → (places : List ℕ) → All (λ place. place < 64) places
    → first_names names (map (total_at entries) places) ≡ map drill_name places
named names entries are [] below = refl
named names entries are (place ∷ places) below =
    let here : name_at names place ≡ drill_name place = ap (λ ns. name_at ns place) are
    ∙ get_or-map-range_with_len drill_name 0 64 place place [] (All-head (λ p. p < 64) place places below) (omega arith) in
    rw (here, named names entries are places (All-tail (λ p. p < 64) place places below)) refl

-- lines with the same totals
abbrev totals_in : List (ℕ × ℤ) → List ℤ
totals_in first = map (λ line. line.1) first

abbrev AreWhole : List Fraction → List (ℕ × ℤ) → List ℕ → Type 0
AreWhole totals first places = AllZip (λ line place. IsWhole line.1 (get_or totals place nothing)) first places

alike : (totals : List Fraction) (us vs : List (ℕ × ℤ)) (places : List ℕ) → totals_in us ≡ totals_in vs → AreWhole totals vs places → AreWhole totals us places
alike totals [] [] places e z = z
alike totals [] (v ∷ vs) places e z = absurd cc
alike totals (u ∷ us) [] places e z = absurd cc
alike totals (u ∷ us) (v ∷ vs) [] e z = absurd z
alike totals (u ∷ us) (v ∷ vs) (place ∷ places) e z =
    let P : ℤ → Type 0 = λ units. IsWhole units (get_or totals place nothing) in
    (subst P (sym (first_same u.1 v.1 (totals_in us) (totals_in vs) e)) z.0, alike totals us vs places (rest_same u.1 v.1 (totals_in us) (totals_in vs) e) z.1)

-- the report of the machines that are told
made : (players : List Lasting) (number : ℕ) (entries : List EntryLine) (names : List (List ℕ)) (first : List (ℕ × ℤ)) (sum : ℤ)
    → names ≡ map drill_name (range_with_len 0 64) → first ≡ map (total_at entries) (first_places (drill_totals players number))
    → AreWhole (drill_totals players number) first (first_places (drill_totals players number)) → IsWhole sum (sum_of (drill_totals players number))
    → IsValid (drill_report_of number names first sum) → ShowsFirst names first → IsRightDrill players number (report_text (drill_report_of number names first sum))
made players number entries names first sum are first_is totals whole valid shows = record {
  report = drill_report_of number names first sum;
  valid = valid;
  text = refl;
  first = moved_first names (first_order names first) first;
  sum = sum;
  body = refl;
  names = shows.names_are ∙ ap (first_names names) first_is ∙ named names entries are (first_places (drill_totals players number)) (places_below (drill_totals players number));
  totals = alike (drill_totals players number) (moved_first names (first_order names first) first) first (first_places (drill_totals players number)) shows.totals_are totals;
  all = whole;
}

pub right_drill_if : {E : Type 0} (players : List Lasting) (number : ℕ) (sheets : List SheetData) (entries : List EntryLine) (names : List (List ℕ)) (first : List (ℕ × ℤ)) (sum units : ℤ) (made_of : Result Report E)
    → sheets ≡ drill_sheets number → names ≡ map drill_name (range_with_len 0 64) → first ≡ first_of entries → IsTold players sheets entries → sum ≡ sum_of_totals entries → units ≡ sum
    → IfOk made_of (λ report. report ≡ drill_report_of number names first units) → IfOk made_of IsValid → IfOk made_of (λ _. ShowsFirst names first) → IfOk made_of (λ report. IsRightDrill players number (report_text report))
right_drill_if players number sheets entries names first sum units (Ok report) drawn are first_is told sum_is same is valid shows =
    let T : List SheetData → Type 0 = λ ss. IsTold players ss entries in
    let truly : IsTold players (drill_sheets number) entries = subst T drawn told in
    let F : List (ℕ × ℤ) → Type 0 = λ f. AreWhole (drill_totals players number) f (first_places (drill_totals players number)) in
    let S : ℤ → Type 0 = λ z. IsWhole z (sum_of (drill_totals players number)) in
    let R : Report → Type 0 = λ r. IsRightDrill players number (report_text r) in
    let so : report ≡ drill_report_of number names first sum = is ∙ ap (drill_report_of number names first) same in
    subst R (sym so)
    (made players number entries names first sum are (first_is ∙ truly.first) (subst F (sym first_is) truly.totals) (subst S (sym sum_is) truly.sum) (subst IsValid so valid) shows)
right_drill_if players number sheets entries names first sum units (Err error) drawn are first_is told sum_is same is valid shows = tt

-- what is told of the lines of machines, as they are read
pub told_entries : (players on_the_right : List Lasting) → SidesFit players on_the_right → (sheets : List SheetData) (entries read : List EntryLine) → read ≡ entries → IsTold players sheets entries → IsTold players sheets read
told_entries players on_the_right fits sheets entries read same told = let P : List EntryLine → Type 0 = λ es. IsTold players sheets es in subst P (sym same) told

pub asked_if : {E : Type 0} (before after : BenchState) (number : ℕ) (sheets : List SheetData) (made_of : Result Report E) → sheets ≡ drill_sheets number
    → AreAsked (machine_strategies (players_of before) sheets) drill_job.turns drill_pairs (bench_turns before) (bench_turns after)
    → IfOk made_of (λ _. IsAskedDrill before after number)
asked_if before after number sheets (Ok report) drawn asked =
    let P : List SheetData → Type 0 = λ ss. AreAsked (machine_strategies (players_of before) ss) drill_job.turns drill_pairs (bench_turns before) (bench_turns after) in
    subst P drawn asked
asked_if before after number sheets (Err error) drawn asked = tt

-- ---- it can be made

pub first_few : (entries : List EntryLine) → length (first_of entries) ≤ length entries
first_few entries =
    let places : List ℕ = range_with_len 0 (length entries) in
    let test = λ (place : ℕ). is_first (line_at entries place).rank in
    omega (arith, length-map (filter test places) (total_at entries), length-filter test places, count_by-le-length test places, length-range_with_len 0 (length entries))

total_small : (entries : List EntryLine) → All (λ (entry : EntryLine). IsSmallTotal entry.total) entries → (place : ℕ) → place < length entries → IsFirstOf (length entries) (total_at entries place)
total_small entries small place inside =
    let s = small place no_line inside in
    record { inside = inside; total = record { low = s.low; high = omega (arith, ints, s.ordered, s.high) } }

pub first_machines : (entries : List EntryLine) → All (λ (entry : EntryLine). IsSmallTotal entry.total) entries → All (IsFirstOf (length entries)) (first_of entries)
first_machines entries small =
    let test = λ (place : ℕ). is_first (line_at entries place).rank in
    let below = All-filter test (λ place. place < length entries) (range_with_len 0 (length entries)) (all_below (length entries)) in
    All-map (IsFirstOf (length entries)) (total_at entries) (filter test (range_with_len 0 (length entries)))
    (λ k d inside. total_small entries small (get_or (filter test (range_with_len 0 (length entries))) k d) (below k d inside))

pub record IsSmallSum (n : ℕ) (sum : ℤ) : Type 0 where
  pub low : pos 0 ≤ℤ sum
  pub high : sum ≤ℤ pos (n * 10 ^ 34)

sum_small : (entries : List EntryLine) → All (λ (entry : EntryLine). IsSmallTotal entry.total) entries → IsSmallSum (length entries) (sum_of_totals entries)
sum_small [] small = record { low = omega (arith, ints); high = omega (arith, ints) }
sum_small (entry ∷ entries) small =
    let P : EntryLine → Type 0 = λ e. IsSmallTotal e.total in
    let here : IsSmallTotal entry.total = All-head P entry entries small in
    let rest = sum_small entries (All-tail P entry entries small) in
    record { low = omega (arith, ints, here.low, rest.low); high = omega (arith, ints, here.ordered, here.high, rest.high) }

pub sum_is_total : (entries : List EntryLine) (sum : ℤ) → length entries ≤ 64 → All (λ (entry : EntryLine). IsSmallTotal entry.total) entries → sum ≡ sum_of_totals entries → IsTotal sum
sum_is_total entries sum few small is =
    let s = sum_small entries small in
    rw is (record { low = s.low; high = omega (arith, ints, s.high, few) })

pub machines_named : (entries : List EntryLine) (names : List (List ℕ)) (first : List (ℕ × ℤ)) → length entries ≡ 64 → names ≡ map drill_name (range_with_len 0 64) → first ≡ first_of entries
    → All (λ (entry : EntryLine). IsSmallTotal entry.total) entries → All (IsFirstOf (length names)) first
machines_named entries names first many are is small =
    let as_long : length entries ≡ length names = many ∙ sym (ap length are ∙ length-map-range_with_len drill_name 0 64) in
    let P : ℕ → Type 0 = λ n. All (IsFirstOf n) (first_of entries) in
    let Q : List (ℕ × ℤ) → Type 0 = λ ls. All (IsFirstOf (length names)) ls in
    subst Q (sym is) (subst P as_long (first_machines entries small))
