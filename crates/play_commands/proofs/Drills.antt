-- What is told of the machines of a drill is true.
use Rattle.std.proofs.Common.{◌≡◌, ℕ, ◌+◌, ◌*◌, ◌<◌, ◌≤◌, ◌==◌, Bool, List, [], ◌∷◌, length, map, get_or, ℤ, pos, refl, sym, ◌∙◌, ap, subst, arith}
use Rattle.std.specs.List.{All, AllZip, filter, range_with_len}
use Rattle.std.proofs.lemmas.Int.{ints}
use Rattle.std.proofs.lemmas.List.{length-map}
use Rattle.std.proofs.lemmas.List.Elements.{All-head, All-tail, All-filter}
use Rattle.std.proofs.lemmas.List.FromFn.{get_or-map-range_with_len, length-map-range_with_len}
use Rattle.player_core.specs.State.{Lasting}
use Rattle.player_core.specs.Sheet.{SheetData}
use Rattle.player_core.specs.Fits.{SidesFit}
use Rattle.fixed_span.specs.Span.{Ends, Fraction, Holds, point, score_units}
use Rattle.result_lines.specs.declared.line.MatchLine.{MatchLine}
use Rattle.result_lines.specs.declared.tables.EntryLine.{EntryLine}
use Rattle.result_lines.specs.declared.ranking.Rank.TheVariants.{At}
use Rattle.result_lines.specs.Ranks.{greater_among, others, rank_of, span_at}
use Rattle.result_lines.specs.Totals.{entry_of, entries_of, total_of, totals_of}
use Rattle.result_lines.specs.declared.tables.Totals.{Totals}
use Rattle.job_tables.specs.Tournament.{TournamentsAscend, tournament_pairs}
use Rattle.sheet_rules.specs.Entrants.{Entrant, entrant_at}
use Rattle.round_robin.specs.Entries.{AreRightEntries, AreRightLines, totals_by_rule}
use Rattle.round_robin.specs.Laws.{IsInRange}
use Rattle.round_robin.specs.Truth.{SumsAreHeld, nothing, true_total, true_totals, true_rank}
use Rattle.report_rules.specs.Valid.{drill_game}
use Rattle.play_commands.specs.Machines.{AreMachines, IsSmallTotal, IsTold, IsWhole, drill_job, drill_pairs, first_of, first_places, is_first, line_at, machine_expects, machine_totals, no_line, still, sum_of, sum_of_totals, total_at}
use Rattle.play_commands.proofs.Drilling.{as_drill, few_pairs, many, pair_sure}
use Rattle.play_commands.proofs.Points.{ArePaid, IsPoint, played_points, rank_known, total_paid}
use Rattle.play_commands.proofs.DrillLoops.{all_below}

-- ---- lists

-- tests that agree on the items of a list
filter_same : (p q : ℕ → Bool) (xs : List ℕ) → All (λ x. p x ≡ q x) xs → filter p xs ≡ filter q xs
filter_same p q [] same = refl
filter_same p q (x ∷ xs) same = rw (All-head (λ y. p y ≡ q y) x xs same, filter_same p q xs (All-tail (λ y. p y ≡ q y) x xs same)) refl

-- ---- points

point_of : (span : Ends) → IsPoint span → span ≡ point span.lo
point_of span is = ap (λ hi. record { lo = span.lo; hi = hi }) (sym is)

whole_of : (span : Ends) (x : Fraction) → IsPoint span → Holds score_units span x → IsWhole span.lo x
whole_of span x is holds = let P : Ends → Type 0 = λ s. Holds score_units s x in subst P (point_of span is) holds

known_first : (rank k : ℕ) → rank ≡ k → (k == 1) ≡ (rank == 1)
known_first rank k e = rw e refl

module _ (players on_the_right : List Lasting) (fits : SidesFit players on_the_right) (sheets : List SheetData) (are : AreMachines sheets) (lines : List MatchLine)
    (made : AreRightLines players drill_game 0 drill_job.turns (map still sheets) drill_pairs lines) (range : All (IsInRange drill_job.turns) lines) where
  lines_paid : All ArePaid lines
  lines_paid k d inside =
      let line = get_or lines k d in
      let is = made.each k d inside in
      let count : ℕ = length (map still sheets) in
      let sixty_four : count ≡ 64 = many players sheets are in
      let sure = pair_sure players sheets are (line.left, line.right) (record { ordered = is.pair.ordered; inside = omega (arith, is.pair.inside, sixty_four) }) in
      let points = played_points players drill_game 0 (entrant_at (map still sheets) line.left) (entrant_at (map still sheets) line.right) line line.tally sure is.score in
      let low = range k d inside in
      record {
        left = record { point = points.0; low = low.left.low; high = low.left.high };
        right = record { point = points.1; low = low.right.low; high = low.right.high };
      }

  -- ---- totals and ranks

  total_point : (i : ℕ) → IsPoint (total_of i lines)
  total_point i = (total_paid i lines lines_paid).point

  all_points : All IsPoint (totals_of 64 lines)
  all_points k d inside =
      let many_totals = length-map-range_with_len (λ i. total_of i lines) 0 64 in
      let at = get_or-map-range_with_len (λ i. total_of i lines) 0 64 k k d (omega (arith, inside, many_totals)) (omega arith) in
      subst IsPoint (sym at) (total_point k)

  span_there : (i : ℕ) → i < 64 → span_at (totals_of 64 lines) i ≡ total_of i lines
  span_there i inside = get_or-map-range_with_len (λ j. total_of j lines) 0 64 i i (point (pos 0)) inside (omega arith)

  rank_there : (i : ℕ) → i < 64 → rank_of (totals_of 64 lines) i ≡ At (1 + greater_among (others (totals_of 64 lines) i) (span_at (totals_of 64 lines) i))
  rank_there i inside = rank_known (totals_of 64 lines) i all_points (subst IsPoint (sym (span_there i inside)) (total_point i))

  module _ (entries : List EntryLine) (are_entries : entries ≡ entries_of 64 lines) (true_of : AreRightEntries (machine_totals players sheets) 64 entries) where
    line_there : (i : ℕ) (none : EntryLine) → i < 64 → get_or entries i none ≡ entry_of 64 lines i
    line_there i none inside =
        ap (λ es. get_or es i none) are_entries ∙ get_or-map-range_with_len (entry_of 64 lines) 0 64 i i none inside (omega arith)

    many_entries : length entries ≡ 64
    many_entries = ap length are_entries ∙ length-map-range_with_len (entry_of 64 lines) 0 64

    -- whether an entry is told to be first is whether it truly is
    first_there : (i : ℕ) → i < 64 → is_first (line_at entries i).rank ≡ (true_rank (machine_totals players sheets) i == 1)
    first_there i inside =
        let k = 1 + greater_among (others (totals_of 64 lines) i) (span_at (totals_of 64 lines) i) in
        let told : (line_at entries i).rank ≡ At k = ap (λ (e : EntryLine). e.rank) (line_there i no_line inside) ∙ rank_there i inside in
        let first : is_first (line_at entries i).rank ≡ (k == 1) = ap is_first told in
        first ∙ known_first (true_rank (machine_totals players sheets) i) k ((true_of i no_line inside).rank k told)

    -- the total of an entry is its true total
    total_there : (place : ℕ) → place < 64 → IsWhole (line_at entries place).total.lo (get_or (machine_totals players sheets) place nothing)
    total_there place inside =
        let P : EntryLine → Type 0 = λ e. IsPoint e.total in
        whole_of (line_at entries place).total _ (subst P (sym (line_there place no_line inside)) (total_point place)) (true_of place no_line inside).total

    -- the entries that are told are those of the first rank
    first_are : first_of entries ≡ map (total_at entries) (first_places (machine_totals players sheets))
    unfolding first_places
    first_are =
        let told : ℕ → Bool = λ place. is_first (line_at entries place).rank in
        let truly : ℕ → Bool = λ place. true_rank (machine_totals players sheets) place == 1 in
        let agree : All (λ place. told place ≡ truly place) (range_with_len 0 64) = λ k d inside.
        first_there (get_or (range_with_len 0 64) k d) (all_below 64 k d inside) in
        ap (λ n. map (total_at entries) (filter told (range_with_len 0 n))) many_entries
        ∙ ap (map (total_at entries)) (filter_same told truly (range_with_len 0 64) agree)

    totals_from : (places : List ℕ) → All (λ place. place < 64) places
        → AllZip (λ line place. IsWhole line.1 (get_or (machine_totals players sheets) place nothing)) (map (total_at entries) places) places
    totals_from [] below = tt
    totals_from (place ∷ places) below =
        (total_there place (All-head (λ p. p < 64) place places below), totals_from places (All-tail (λ p. p < 64) place places below))

    -- each with its true total
    totals_are : AllZip (λ line place. IsWhole line.1 (get_or (machine_totals players sheets) place nothing)) (first_of entries) (first_places (machine_totals players sheets))
    unfolding first_places
    totals_are =
        let P : List (ℕ × ℤ) → Type 0 = λ first. AllZip (λ line place. IsWhole line.1 (get_or (machine_totals players sheets) place nothing)) first (first_places (machine_totals players sheets)) in
        subst P (sym first_are)
        (totals_from (first_places (machine_totals players sheets)) (All-filter (λ place. true_rank (machine_totals players sheets) place == 1) (λ place. place < 64) (range_with_len 0 64) (all_below 64)))

    -- what is told at a place is what is true there
    true_there : (i : ℕ) → i < 64 → IsWhole (total_of i lines).lo (true_total (machine_expects players sheets) drill_pairs i)
    unfolding machine_totals
    true_there i inside =
        let at = get_or-map-range_with_len (true_total (machine_expects players sheets) drill_pairs) 0 64 i i nothing inside (omega arith) in
        let P : EntryLine → Fraction → Type 0 = λ e x. IsWhole e.total.lo x in
        subst (P (entry_of 64 lines i)) at (subst (λ e. P e (get_or (machine_totals players sheets) i nothing)) (line_there i no_line inside) (total_there i inside))

    sums_from : SumsAreHeld → (places : List ℕ) → All (λ place. place < 64) places
        → IsWhole (sum_of_totals (map (entry_of 64 lines) places)) (sum_of (map (true_total (machine_expects players sheets) drill_pairs) places))
    sums_from held [] below = record { above_zero = omega arith; low = omega (arith, ints); high = omega (arith, ints) }
    sums_from held (place ∷ places) below =
        let x : ℕ → Fraction = true_total (machine_expects players sheets) drill_pairs in
        held score_units (point (total_of place lines).lo) (point (sum_of_totals (map (entry_of 64 lines) places))) (x place) (sum_of (map x places))
        (true_there place (All-head (λ p. p < 64) place places below)) (sums_from held places (All-tail (λ p. p < 64) place places below))

    -- and the sum is that of all true totals
    sum_is : SumsAreHeld → IsWhole (sum_of_totals entries) (sum_of (machine_totals players sheets))
    unfolding machine_totals
    sum_is held =
        let Q : List EntryLine → Type 0 = λ es. IsWhole (sum_of_totals es) (sum_of (machine_totals players sheets)) in
        subst Q (sym are_entries) (sums_from held (range_with_len 0 64) (all_below 64))

    -- all totals can be summed, and shown
    entries_small : 2 * length drill_pairs ≤ 64 * 65 → All (λ (entry : EntryLine). IsSmallTotal entry.total) entries
    entries_small few k d inside =
        let as_many : length lines ≡ length drill_pairs = sym (length-map lines (λ (line : MatchLine). (line.left, line.right))) ∙ ap length made.places in
        let paid = total_paid k lines lines_paid in
        let P : EntryLine → Type 0 = λ e. IsSmallTotal e.total in
        subst P (sym (line_there k d (omega (arith, inside, many_entries))))
        (record { low = paid.low; ordered = omega (arith, ints, paid.point); high = omega (arith, ints, paid.high, few, as_many) })

    pub is_told : SumsAreHeld → 2 * length drill_pairs ≤ 64 * 65 → IsTold players sheets entries
    is_told held few = record { many = many_entries; small = entries_small few; first = first_are; totals = totals_are; sum = sum_is held }

-- the matches that are made are those of the drill, and so is what they are told to come to
pub told_of : (players on_the_right : List Lasting) → SidesFit players on_the_right → (sheets : List SheetData) → AreMachines sheets → (entrants : List Entrant) → entrants ≡ map still sheets
    → (pairs : List (ℕ × ℕ)) → pairs ≡ tournament_pairs drill_job (length sheets) → TournamentsAscend → SumsAreHeld → (results : Totals)
    → AreRightLines players drill_game 0 drill_job.turns entrants pairs results.matches → All (IsInRange drill_job.turns) results.matches
    → AreRightEntries (totals_by_rule players drill_game 0 drill_job.turns entrants pairs) (length entrants) results.entries → results.entries ≡ entries_of (length entrants) results.matches
    → IsTold players sheets results.entries
unfolding machine_totals
told_of players on_the_right fits sheets are entrants held pairs made law sums results lines range right entries =
    let drilled = as_drill players on_the_right fits sheets are entrants held pairs made in
    let sixty_four : length (map still sheets) ≡ 64 = many players sheets are in
    let P : ℕ → Type 0 = λ n. AreRightEntries (true_totals (machine_expects players sheets) drill_pairs n) n results.entries in
    let Q : ℕ → Type 0 = λ n. results.entries ≡ entries_of n results.matches in
    is_told players on_the_right fits sheets are results.matches (drilled (λ es ps. AreRightLines players drill_game 0 drill_job.turns es ps results.matches) lines) range results.entries
    (subst Q sixty_four (drilled (λ es ps. results.entries ≡ entries_of (length es) results.matches) entries))
    (subst P sixty_four (drilled (λ es ps. AreRightEntries (totals_by_rule players drill_game 0 drill_job.turns es ps) (length es) results.entries) right))
    sums (few_pairs law)
