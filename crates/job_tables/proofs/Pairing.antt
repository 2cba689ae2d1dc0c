-- The pairs of a tournament, field by field of the square of all pairs.
use Rattle.std.proofs.Common.{◌≡◌, ◌≢◌, append-nil, ℕ, zero, suc, ◌+◌, ◌*◌, ◌/◌, ◌%◌, ◌<◌, ◌≤◌, ◌==◌, ◌&&◌, nat_lt, Bool, true, false, List, [], ◌∷◌, ◌++◌, length, get_or, map, cond, if◌then◌else◌, refl, sym, ◌∙◌, ap, inl, inr, eqb, arith}
use Rattle.std.proofs.Math.Nat.{mul-le-mul_right}
use Rattle.std.proofs.lemmas.Bool.{cases_Bool, cases_order, and_parts, eqb-true, ltb-true, ne_eqb}
use Rattle.std.proofs.lemmas.List.{get_or-map, length-map}
use Rattle.std.proofs.lemmas.List.Elements.{All-filter, filter_passes}
use Rattle.std.proofs.lemmas.List.Folds.{Any-from_list_any}
use Rattle.std.proofs.lemmas.List.FromFn.{filter_of_map_range_with_len_more, get_or-map-range_with_len, length-map-range_with_len}
use Rattle.std.proofs.lemmas.List.Kept.{AllPairs-filter}
use Rattle.std.proofs.lemmas.Map.Keys.{IsDistinct-from_apart}
use Rattle.std.proofs.lemmas.Map.Steps.{length-le_from_distinct_below}
use Rattle.std.proofs.lemmas.Nat.{div-add-mod', div-mul-add, mod-mul-add, mul-add-lt, mod_below}
use Rattle.std.specs.List.{filter, list_any, All, AllPairs, Contains}
use Rattle.job_tables.specs.declared.tournament.TournamentJob.{TournamentJob}
use Rattle.job_tables.specs.Tournament.{is_played, are_joined, pair_at, all_pairs, played_before, tournament_pairs, AreMatches, ComesBefore, TournamentsAscend}

next : (job : TournamentJob) (count field : ℕ)
    → played_before job count (field + 1) ≡ played_before job count field ++ cond (is_played job (pair_at count field)) (pair_at count field ∷ []) []
next job count field = filter_of_map_range_with_len_more (is_played job) (pair_at count) 0 field field (omega arith)

-- one field more, whose pair is a match
pub field_on : (job : TournamentJob) (count field : ℕ) → true ≡ is_played job (pair_at count field)
    → played_before job count (field + 1) ≡ played_before job count field ++ pair_at count field ∷ []
field_on job count field is =
    next job count field ∙ ap (λ b. played_before job count field ++ cond b (pair_at count field ∷ []) []) (sym is)

-- one field more, whose pair isn't
pub field_off : (job : TournamentJob) (count field : ℕ) → false ≡ is_played job (pair_at count field)
    → played_before job count (field + 1) ≡ played_before job count field
field_off job count field is =
    next job count field ∙ ap (λ b. played_before job count field ++ cond b (pair_at count field ∷ []) []) (sym is)
    ∙ append-nil (played_before job count field)

-- without rows there is no field
some_rows : (count i : ℕ) → i < count * count → 0 < count
some_rows zero i inside = absurd (omega arith)
some_rows (suc n) i inside = omega arith

-- a later field has a later pair
fields_ascend : (count i j : ℕ) → 0 < count → i < j → ComesBefore (pair_at count i) (pair_at count j)
fields_ascend count i j some before =
    let low = div-add-mod' i count in
    let high = div-add-mod' j count in
    elim (cases_order (i / count) (j / count)) [
      | inl same ↦
          let rows : i / count * count ≡ j / count * count = ap (λ row. row * count) same in
          inr (same, omega arith)
      | inr (inl less) ↦ inl less
      | inr (inr more) ↦
          let rows : (j / count + 1) * count ≤ i / count * count = mul-le-mul_right count (omega arith) in
          let short : j % count < count = mod_below j count some in
          absurd (omega (arith, rows, short, low, high))
    ]

squares_ascend : (count : ℕ) → AllPairs ComesBefore (all_pairs count)
squares_ascend count i j d before inside =
    let within : j < count * count = omega (arith, inside, length-map-range_with_len (pair_at count) 0 (count * count)) in
    let at_i = get_or-map-range_with_len (pair_at count) 0 (count * count) i i d (omega arith) (omega arith) in
    let at_j = get_or-map-range_with_len (pair_at count) 0 (count * count) j j d within (omega arith) in
    rw (at_i, at_j) (fields_ascend count i j (some_rows count j within) before)

columns : (count : ℕ) → All (λ pair. pair.1 < count) (all_pairs count)
columns count k d inside =
    let within : k < count * count = omega (arith, inside, length-map-range_with_len (pair_at count) 0 (count * count)) in
    let here = get_or-map-range_with_len (pair_at count) 0 (count * count) k k d within (omega arith) in
    rw here (mod_below k count (some_rows count k within))

-- the smaller place of a match stands first
low_first : (job : TournamentJob) (i j : ℕ) (same less : Bool) → same ≡ (i == j) → less ≡ nat_lt i j
    → (if same then job.self_play else less && are_joined job.edges i j) ≡ true → i ≤ j
low_first job i j true less is under played = omega (arith, eqb-true i j (sym is))
low_first job i j false less is under played =
    let below : i < j = ltb-true i j (sym under ∙ (and_parts less (are_joined job.edges i j) played).0) in omega arith

-- what is an element and passes is left by a filter
kept : {X : Type 0} (test : X → Bool) (xs : List X) (k : ℕ) (x : X) → k < length xs → get_or xs k x ≡ x → test x ≡ true → Contains (filter test xs) x
kept test [] k x inside is on = absurd (omega arith)
kept test (y ∷ ys) zero x inside is on =
    let passes : test y ≡ true = ap test is ∙ on in rw passes (0, omega arith, is)
kept test (y ∷ ys) (suc k) x inside is on =
    let later = kept test ys k x (omega arith) is on in
    elim (cases_Bool (test y)) [
      | inl passes ↦ rw passes (suc later.0, omega (arith, later.1), later.2)
      | inr fails ↦ rw fails later
    ]

every : (job : TournamentJob) (count i j : ℕ) → i < count → j < count → is_played job (i, j) ≡ true → Contains (tournament_pairs job count) (i, j)
every job count i j low within played =
    let inside : i * count + j < count * count = mul-add-lt i count j count low within in
    let here : pair_at count (i * count + j) ≡ (i, j) = rw (div-mul-add i count j within, mod-mul-add i count j within) in
    kept (is_played job) (all_pairs count) (i * count + j) (i, j)
    (omega (arith, inside, length-map-range_with_len (pair_at count) 0 (count * count)))
    (get_or-map-range_with_len (pair_at count) 0 (count * count) (i * count + j) (i * count + j) (i, j) inside (omega arith) ∙ here)
    played

-- the numbers up to n, added up
tri : ℕ → ℕ
tri zero = 0
tri (suc n) = tri n + suc n

tri_twice : (n : ℕ) → 2 * tri n ≡ n * (n + 1)
unfolding tri
tri_twice zero = refl
tri_twice (suc n) = omega (arith, tri_twice n)

tri_rises : (j k : ℕ) → j < k → tri j + suc j ≤ tri k
unfolding tri
tri_rises j zero before = absurd (omega arith)
tri_rises j (suc k) before =
    elim (cases_order j k) [
      | inl same ↦ rw same (omega arith)
      | inr (inl less) ↦ omega (arith, tri_rises j k less)
      | inr (inr more) ↦ absurd (omega arith)
    ]

-- the number of the pairs with a smaller greater place, and of those with the same that stand before the pair
code : ℕ × ℕ → ℕ
code pair = tri pair.1 + pair.0

code_below : (count : ℕ) (pair : ℕ × ℕ) → pair.0 ≤ pair.1 → pair.1 < count → code pair < tri count
unfolding code
code_below count pair low within = omega (arith, tri_rises pair.1 count within)

codes_differ : (pair later : ℕ × ℕ) → pair.0 ≤ pair.1 → later.0 ≤ later.1 → ComesBefore pair later → code pair ≢ code later
unfolding code
codes_differ pair later low high before same =
    elim (cases_order pair.1 later.1) [
      | inl equal ↦
          let rows : tri pair.1 ≡ tri later.1 = ap tri equal in
          elim before [ inl less ↦ omega arith | inr tie ↦ omega (arith, tie.1) ]
      | inr (inl less) ↦ omega (arith, tri_rises pair.1 later.1 less)
      | inr (inr more) ↦ omega (arith, tri_rises later.1 pair.1 more)
    ]

code_at : (pairs : List (ℕ × ℕ)) (k d : ℕ) (e : ℕ × ℕ) → k < length pairs → get_or (map code pairs) k d ≡ code (get_or pairs k e)
code_at pairs k d e inside = get_or-map code pairs k e d inside

-- of so many entries there are no more such pairs
few_pairs : (count : ℕ) (pairs : List (ℕ × ℕ)) → AllPairs ComesBefore pairs → All (λ pair. (pair.0 ≤ pair.1) × (pair.1 < count)) pairs
    → 2 * length pairs ≤ count * (count + 1)
few_pairs count pairs ascending within =
    let none : ℕ × ℕ = (0, 0) in
    let distinct = IsDistinct-from_apart eqb (map code pairs)
    (λ i j d before inside.
    let high : j < length pairs = omega (arith, inside, length-map pairs code) in
    let low : i < length pairs = omega arith in
    rw (code_at pairs i d none low, code_at pairs j d none high)
    (ne_eqb _ _ (codes_differ (get_or pairs i none) (get_or pairs j none) (within i none low).0 (within j none high).0 (ascending i j none before high)))) in
    let below : (q : ℕ) → list_any (eqb q) (map code pairs) ≡ true → q < tri count = λ q some.
    let found = Any-from_list_any (eqb q) (map code pairs) some in
    let inside : found.0 < length pairs = omega (arith, found.2, length-map pairs code) in
    let here : found.1 ≡ code (get_or pairs found.0 none) = sym found.3 ∙ code_at pairs found.0 found.1 none inside in
    let fits = within found.0 none inside in
    omega (arith, here, eqb-true q found.1 found.4, code_below count (get_or pairs found.0 none) fits.0 fits.1) in
    omega (arith, length-le_from_distinct_below (map code pairs) (tri count) distinct below, length-map pairs code, tri_twice count)

pub matches_ascend : TournamentsAscend
matches_ascend job count =
    let played = filter_passes (is_played job) (all_pairs count) in
    let below = All-filter (is_played job) (λ (pair : ℕ × ℕ). pair.1 < count) (all_pairs count) (columns count) in
    let ascending = AllPairs-filter ComesBefore (is_played job) (all_pairs count) (squares_ascend count) in
    let within : All (λ (pair : ℕ × ℕ). (pair.0 ≤ pair.1) × (pair.1 < count)) (tournament_pairs job count) =
    λ k d inside.
    let pair : ℕ × ℕ = get_or (tournament_pairs job count) k d in
    (low_first job pair.0 pair.1 (pair.0 == pair.1) (nat_lt pair.0 pair.1) refl refl (played k d inside), below k d inside) in record {
      ascending = ascending;
      few = few_pairs count (tournament_pairs job count) ascending within;
      within = within;
      played = played;
      every = every job count;
    }

-- all fields
pub all_matches : (job : TournamentJob) (count field : ℕ) (pairs : List (ℕ × ℕ)) → pairs ≡ played_before job count field → field ≡ count * count
    → AreMatches job count pairs
all_matches job count field pairs is all = rw (is, all) (matches_ascend job count)
