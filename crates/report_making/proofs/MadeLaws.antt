-- The report that is made of a tournament shows what the results say, and is valid.
use Rattle.std.proofs.Common.{◌≡◌, ℕ, zero, suc, ◌+◌, ◌<◌, ◌≤◌, Bool, true, false, cond, eqb, List, [], ◌∷◌, ◌++◌, length, map, drop, get_or, fold, Option, Some, None, refl, sym, ap, subst, ◌∙◌, add-one, drop-cons, arith, inl, inr, ◌⊎◌}
use Rattle.std.specs.Prelude.{◌≢◌, IfSome}
use Rattle.std.specs.List.{All, AllWithin, AllPairs, AllZip, Contains, list_any, range_with_len}
use Rattle.std.specs.Str.{bytes_eq}
use Rattle.std.proofs.lemmas.Bool.{eqb-true}
use Rattle.std.proofs.lemmas.Slice.Eq.{bytes_eq-Decides}
use Rattle.std.proofs.lemmas.Bool.Decides.{nat_tests}
use Rattle.std.proofs.lemmas.List.{get_or-map, get_or_default, length-map}
use Rattle.std.proofs.lemmas.List.Elements.{All-append, All-cons, All-head, All-map, All-nil, All-tail, AllWithin-more}
use Rattle.std.proofs.lemmas.List.Folds.{list_any-from_Any}
use Rattle.std.proofs.lemmas.List.FromFn.{length-map-range_with_len}
use Rattle.std.proofs.lemmas.Simd.{map-map}
use Rattle.history_model.specs.declared.tally.Tally.{Tally}
use Rattle.history_model.specs.Game.{IsGame}
use Rattle.history_model.specs.Name.{IsName}
use Rattle.history_model.specs.Tally.{left_points, right_points}
use Rattle.history_model.specs.Noise.{FlipRate, IsFlipRate}
use Rattle.fixed_span.specs.Span.{Ends}
use Rattle.result_lines.specs.declared.line.MatchLine.{MatchLine}
use Rattle.result_lines.specs.declared.tables.EntryLine.{EntryLine}
use Rattle.result_lines.specs.declared.tables.Totals.{Totals}
use Rattle.result_lines.specs.Ranks.{rank_of, ranks_of}
use Rattle.result_lines.specs.Totals.{own_score, total_of, totals_of, wins_match, leaves_undecided, entry_of, entries_of}
use Rattle.report_rules.specs.declared.report.Body.TheVariants as bodies
use Rattle.report_rules.specs.declared.report.Head.{Head}
use Rattle.report_rules.specs.declared.report.Report.{Report}
use Rattle.report_names.specs.Names.{NamesGrow, name_at, with_name, with_names, place_in}
use Rattle.report_rules.specs.Text.{shown_match}
use Rattle.report_rules.specs.Valid.{paid, IsCounted, IsCountedIn, IsHead, IsMatchOf, IsOnceEach, IsTable, IsValid, match_names, own_count}
use Rattle.report_making.specs.Made.{AreResults, ShowsNames, moved_match, moved_matches, names_in_order, noise_of, noises_in_order, places_in, tournament_report_of}
use Rattle.report_making.proofs.Gathering.{holds_on, names_then, one_longer}

-- ---- names in order

-- what holds of each name holds of those that matches show
matches_hold : (P : List ℕ → Type 0) (names : List (List ℕ)) (head : Head) (ms : List MatchLine) → ((k : ℕ) → k < length names → P (name_at names k)) → All (IsMatchOf (length names) head) ms → All P (match_names names ms)
matches_hold P names head [] each all = All-nil P
matches_hold P names head (m ∷ ms) each all =
    let v = All-head (IsMatchOf (length names) head) m ms all in
    All-cons P (name_at names m.left) (name_at names m.right ∷ match_names names ms) (each m.left v.left)
    (All-cons P (name_at names m.right) (match_names names ms) (each m.right v.right) (matches_hold P names head ms each (All-tail (IsMatchOf (length names) head) m ms all)))

-- one name after the other
pub order_more : (names order next all : List (List ℕ)) (k : ℕ) (name : List ℕ) → k < length names → name ≡ get_or names k name → next ≡ with_name order name → with_names order (drop k names) ≡ all → with_names next (drop (k + 1) names) ≡ all
order_more names order next all k name inside is new so_far =
    let cut : drop k names ≡ name ∷ drop (k + 1) names = drop-cons names k name inside ∙ ap (λ (n : List ℕ). n ∷ drop (suc k) names) (sym is) ∙ ap (λ (n : ℕ). name ∷ drop n names) (sym (add-one k)) in
    ap (λ (ns : List (List ℕ)). with_names ns (drop (k + 1) names)) new ∙ ap (with_names order) (sym cut) ∙ so_far

pub few_more : (order next : List (List ℕ)) (name : List ℕ) (n k : ℕ) → next ≡ with_name order name → length order ≤ n + k → length next ≤ n + (k + 1)
few_more order next name n k new few = rw new (omega (arith, few, one_longer order name))

pub named_more : (names : List (List ℕ)) (k : ℕ) (name : List ℕ) → k < length names → name ≡ get_or names k name → IsName name → AllWithin IsName names 0 k → AllWithin IsName names 0 (k + 1)
named_more names k name inside is one so_far = AllWithin-more IsName names 0 k so_far (λ d. subst IsName (is ∙ get_or_default names k name d inside) one)

-- ---- places

abbrev order_of : List (List ℕ) → List MatchLine → List (List ℕ)
order_of names ms = names_in_order names ms

-- the place in the report of the entry at a place
abbrev moved : List (List ℕ) → List MatchLine → ℕ → ℕ
moved names ms i = place_in (order_of names ms) (name_at names i)

three_ways : (i j : ℕ) → (i ≡ j) ⊎ ((i < j) ⊎ (j < i))
three_ways i j = grind arith

same_place : (names : List (List ℕ)) → AllPairs (λ a b. a ≢ b) names → (i j : ℕ) → i < length names → j < length names → name_at names i ≡ name_at names j → (i ≡ j) ⊎ ((i < j) ⊎ (j < i)) → i ≡ j
same_place names different i j left right e (inl same) = same
same_place names different i j left right e (inr (inl less)) = absurd (different i j [] less right e)
same_place names different i j left right e (inr (inr more)) = absurd (different j i [] more left (sym e))

no_true : false ≡ true → ⊥
no_true e = absurd cc

apart_by : (t : Bool) → (t ≡ true → ⊥) → t ≡ false
apart_by true h = absurd (h refl)
apart_by false h = refl

same_number : (n : ℕ) → eqb n n ≡ true
same_number n = grind (arith, nat_tests)

eqb_by : (a b i j : ℕ) (t : Bool) → t ≡ eqb i j → (i ≡ j → a ≡ b) → (a ≡ b → i ≡ j) → eqb a b ≡ t
eqb_by a b i j true e to back = ap (λ (k : ℕ). eqb k b) (to (eqb-true i j (sym e))) ∙ same_number b
eqb_by a b i j false e to back = apart_by (eqb a b) (λ (h : eqb a b ≡ true). no_true (e ∙ ap (λ (k : ℕ). eqb k j) (back (eqb-true a b h)) ∙ same_number j))

-- a place that is among some is found there
listed : (who : List ℕ) (place : ℕ) → Contains who place → list_any (λ other. eqb other place) who ≡ true
listed who place c = list_any-from_Any (λ (other : ℕ). eqb other place) who (c.0, place, c.1, c.2, same_number place)

-- ---- lists of lines

-- tests that agree count alike
abbrev counted_on : (MatchLine → Bool) → ℕ → List MatchLine → ℕ
counted_on test n ms = fold (λ (a : ℕ) (m : MatchLine). a + cond (test m) 1 0) n ms

counts_moved : (head : Head) (count : ℕ) (f : MatchLine → MatchLine) (test old : MatchLine → Bool) (n : ℕ) (ms : List MatchLine)
    → ((m : MatchLine) → IsMatchOf count head m → test (f m) ≡ old m) → All (IsMatchOf count head) ms → counted_on test n (map f ms) ≡ counted_on old n ms
counts_moved head count f test old n [] same all = refl
counts_moved head count f test old n (m ∷ ms) same all =
    ap (λ (t : Bool). counted_on test (n + cond t 1 0) (map f ms)) (same m (All-head (IsMatchOf count head) m ms all))
    ∙ counts_moved head count f test old (n + cond (old m) 1 0) ms same (All-tail (IsMatchOf count head) m ms all)

-- lists of equal length that agree at each place
zip_made : (R : ℕ → EntryLine → Type 0) (f : List ℕ → ℕ) (e : ℕ → EntryLine) (xs : List (List ℕ)) (a : ℕ) → ((k : ℕ) → k < length xs → R (f (name_at xs k)) (e (a + k))) → AllZip R (map f xs) (map e (range_with_len a (length xs)))
zip_made R f e [] a each = tt
zip_made R f e (x ∷ xs) a each =
    let first : a + 0 ≡ a = omega arith in (
      subst (λ (k : ℕ). R (f x) (e k)) first (each 0 (omega arith)),
      zip_made R f e xs (a + 1) (λ k below. let next : a + suc k ≡ (a + 1) + k = omega arith in subst (λ (n : ℕ). R (f (name_at xs k)) (e n)) next (each (suc k) (omega (arith, below)))),
    )

-- the ranks of entries are those by their totals
all_ranked : (count : ℕ) (ms : List MatchLine) → map (λ entry. entry.rank) (entries_of count ms) ≡ ranks_of (map (λ entry. entry.total) (entries_of count ms))
all_ranked count ms =
    let places : List ℕ = range_with_len 0 count in
    let totals : List Ends = totals_of count ms in
    let ranks : map (λ entry. entry.rank) (entries_of count ms) ≡ map (rank_of totals) places = map-map (λ (entry : EntryLine). entry.rank) (entry_of count ms) places in
    let same : map (λ (entry : EntryLine). entry.total) (entries_of count ms) ≡ totals = map-map (λ (entry : EntryLine). entry.total) (entry_of count ms) places in
    let long : length totals ≡ count = length-map-range_with_len (λ (i : ℕ). total_of i ms) 0 count in
    ranks ∙ ap (λ (n : ℕ). map (rank_of totals) (range_with_len 0 n)) (sym long) ∙ ap ranks_of (sym same)

-- counts stay with the scores that they are paid
pub counts_kept : (head : Head) (line next : MatchLine) (tally : Option Tally) → line.turns ≡ next.turns → line.left_score ≡ next.left_score → line.right_score ≡ next.right_score → IfSome tally (IsCounted head line) → IfSome tally (IsCounted head next)
counts_kept head line next None turns left right h = tt
counts_kept head line next (Some tally) turns left right h = record {
  turns = h.turns ∙ turns;
  left = sym left ∙ h.left ∙ ap (λ (t : ℕ). paid head.offset t (left_points head.game tally)) turns;
  right = sym right ∙ h.right ∙ ap (λ (t : ℕ). paid head.offset t (right_points head.game tally)) turns;
}

-- ---- what is given

-- the results, and the names of their entries
pub record Given (head : Head) (names : List (List ℕ)) (ms : List MatchLine) : Type 0 where
  pub are_names : All IsName names
  pub different : AllPairs (λ a b. a ≢ b) names
  pub playable : All (IsMatchOf (length names) head) ms

-- ---- noises

place_by : (t : Bool) (k rest l : ℕ) → rest < l → cond t 0 (rest + 1) < suc l
place_by true k rest l h = omega arith
place_by false k rest l h = omega (arith, h)

same_bytes : (name : List ℕ) → bytes_eq name name ≡ true
same_bytes name = (bytes_eq-Decides name name).1 refl

-- a name that stands among names has a place
found_below : (names : List (List ℕ)) (k : ℕ) → k < length names → place_in names (name_at names k) < length names
found_below [] k h = absurd (omega (arith, h))
found_below (name ∷ names) zero h = rw (same_bytes name) (omega arith)
found_below (name ∷ names) (suc k) h = place_by (bytes_eq name (name_at names k)) k (place_in names (name_at names k)) (length names) (found_below names k (omega (arith, h)))

noises_count : (first : Bool) (version : ℕ) (names : List (List ℕ)) (noises : List FlipRate) (order : List (List ℕ)) → eqb version 1 ≡ first → length (noises_in_order version names noises order) ≡ own_count version (length order)
noises_count true version names noises order is = rw is refl
noises_count false version names noises order is = rw is (length-map order (noise_of names noises))

-- it is the name of an entry
abbrev IsNamed : List (List ℕ) → List ℕ → Type 0
IsNamed names name = (i : ℕ) × (i < length names) × (name_at names i ≡ name)

module _ (law : NamesGrow) where
  -- ---- where names stand

  all_named : (names : List (List ℕ)) (ms : List MatchLine) → All (λ name. place_in (order_of names ms) name < length (order_of names ms)) names
  all_named names ms =
      subst (λ (order : List (List ℕ)). All (λ (name : List ℕ). place_in order name < length order) names) (sym (names_then [] (match_names names ms) names)) (law.placed (with_names [] (match_names names ms)) names)

  moved_below : (names : List (List ℕ)) (ms : List MatchLine) (i : ℕ) → i < length names → moved names ms i < length (order_of names ms)
  moved_below names ms i inside = all_named names ms i [] inside

  moved_name : (names : List (List ℕ)) (ms : List MatchLine) (i : ℕ) → i < length names → name_at (order_of names ms) (moved names ms i) ≡ name_at names i
  moved_name names ms i inside = law.stands (order_of names ms) (name_at names i) (moved_below names ms i inside)

  moved_apart : (names : List (List ℕ)) (ms : List MatchLine) → AllPairs (λ a b. a ≢ b) names → (i j : ℕ) → i < length names → j < length names → moved names ms i ≡ moved names ms j → i ≡ j
  moved_apart names ms different i j left right e =
      same_place names different i j left right (sym (moved_name names ms i left) ∙ ap (name_at (order_of names ms)) e ∙ moved_name names ms j right) (three_ways i j)

  moved_same : (names : List (List ℕ)) (ms : List MatchLine) → AllPairs (λ a b. a ≢ b) names → (i j : ℕ) → i < length names → j < length names → eqb (moved names ms i) (moved names ms j) ≡ eqb i j
  moved_same names ms different i j left right =
      eqb_by (moved names ms i) (moved names ms j) i j (eqb i j) refl (ap (moved names ms)) (moved_apart names ms different i j left right)

  -- ---- what the report shows

  shown_moved : (names : List (List ℕ)) (ms : List MatchLine) (line : MatchLine) → line.left < length names → line.right < length names → shown_match (order_of names ms) (moved_match names (order_of names ms) line) ≡ shown_match names line
  shown_moved names ms line left right = rw (moved_name names ms line.left left, moved_name names ms line.right right) refl

  all_shown : (names : List (List ℕ)) (head : Head) (all ms : List MatchLine) → All (IsMatchOf (length names) head) ms → map (shown_match (order_of names all)) (moved_matches names (order_of names all) ms) ≡ map (shown_match names) ms
  all_shown names head all [] playable = refl
  all_shown names head all (m ∷ ms) playable =
      let v = All-head (IsMatchOf (length names) head) m ms playable in
      rw (shown_moved names all m v.left v.right, all_shown names head all ms (All-tail (IsMatchOf (length names) head) m ms playable)) refl

  names_shown : (names : List (List ℕ)) (head : Head) (all ms : List MatchLine) → All (IsMatchOf (length names) head) ms → match_names (order_of names all) (moved_matches names (order_of names all) ms) ≡ match_names names ms
  names_shown names head all [] playable = refl
  names_shown names head all (m ∷ ms) playable =
      let v = All-head (IsMatchOf (length names) head) m ms playable in
      rw (moved_name names all m.left v.left, moved_name names all m.right v.right, names_shown names head all ms (All-tail (IsMatchOf (length names) head) m ms playable)) refl

  entries_shown : (order xs : List (List ℕ)) → All (λ name. place_in order name < length order) xs → map (name_at order) (places_in order xs) ≡ xs
  entries_shown order [] all = refl
  entries_shown order (x ∷ xs) all =
      rw (law.stands order x (All-head (λ (name : List ℕ). place_in order name < length order) x xs all), entries_shown order xs (All-tail (λ (name : List ℕ). place_in order name < length order) x xs all)) refl

  pub shows : (head : Head) (names : List (List ℕ)) (totals : Totals) → Given head names totals.matches → ShowsNames names totals
  shows head names totals g = record {
    matches = all_shown names head totals.matches totals.matches g.playable;
    entries = entries_shown (order_of names totals.matches) names (all_named names totals.matches);
  }

  -- ---- each entry keeps what it has

  score_moved : (names : List (List ℕ)) (all : List MatchLine) → AllPairs (λ a b. a ≢ b) names → (i : ℕ) (line : MatchLine) → i < length names → line.left < length names → line.right < length names
      → own_score (moved names all i) (moved_match names (order_of names all) line) ≡ own_score i line
  score_moved names all different i line inside left right = rw (moved_same names all different line.left i left inside, moved_same names all different line.right i right inside) refl

  total_moved : (head : Head) (names : List (List ℕ)) (all ms : List MatchLine) → AllPairs (λ a b. a ≢ b) names → All (IsMatchOf (length names) head) ms → (i : ℕ) → i < length names
      → total_of (moved names all i) (moved_matches names (order_of names all) ms) ≡ total_of i ms
  total_moved head names all [] different playable i inside = refl
  total_moved head names all (m ∷ ms) different playable i inside =
      let v = All-head (IsMatchOf (length names) head) m ms playable in
      rw (score_moved names all different i m inside v.left v.right, total_moved head names all ms different (All-tail (IsMatchOf (length names) head) m ms playable) i inside) refl

  wins_moved : (names : List (List ℕ)) (all : List MatchLine) → AllPairs (λ a b. a ≢ b) names → (i : ℕ) (line : MatchLine) → i < length names → line.left < length names → line.right < length names
      → wins_match (moved names all i) (moved_match names (order_of names all) line) ≡ wins_match i line
  wins_moved names all different i line inside left right =
      rw (moved_same names all different line.left i left inside, moved_same names all different line.right i right inside, moved_same names all different line.left line.right left right) refl

  open_moved : (names : List (List ℕ)) (all : List MatchLine) → AllPairs (λ a b. a ≢ b) names → (i : ℕ) (line : MatchLine) → i < length names → line.left < length names → line.right < length names
      → leaves_undecided (moved names all i) (moved_match names (order_of names all) line) ≡ leaves_undecided i line
  open_moved names all different i line inside left right =
      rw (moved_same names all different line.left i left inside, moved_same names all different line.right i right inside, moved_same names all different line.left line.right left right) refl

  keeps : (head : Head) (names : List (List ℕ)) (ms : List MatchLine) → Given head names ms → (i : ℕ) → i < length names
      → IsCountedIn (moved_matches names (order_of names ms) ms) (moved names ms i) (entry_of (length names) ms i)
  keeps head names ms g i inside =
      let f : MatchLine → MatchLine = moved_match names (order_of names ms) in
      record {
        total = sym (total_moved head names ms ms g.different g.playable i inside);
        wins = sym (counts_moved head (length names) f (wins_match (moved names ms i)) (wins_match i) 0 ms (λ (m : MatchLine) v. wins_moved names ms g.different i m inside v.left v.right) g.playable);
        undecided = sym (counts_moved head (length names) f (leaves_undecided (moved names ms i)) (leaves_undecided i) 0 ms (λ (m : MatchLine) v. open_moved names ms g.different i m inside v.left v.right) g.playable);
      }

  all_kept : (head : Head) (names : List (List ℕ)) (ms : List MatchLine) → Given head names ms → AllZip (IsCountedIn (moved_matches names (order_of names ms) ms)) (places_in (order_of names ms) names) (entries_of (length names) ms)
  all_kept head names ms g =
      zip_made (IsCountedIn (moved_matches names (order_of names ms) ms)) (place_in (order_of names ms)) (entry_of (length names) ms) names 0
      (λ k below. let same : k ≡ 0 + k = omega arith in subst (λ (n : ℕ). IsCountedIn (moved_matches names (order_of names ms) ms) (moved names ms k) (entry_of (length names) ms n)) same (keeps head names ms g k below))

  -- ---- each entry has one line

  all_from : (head : Head) (names : List (List ℕ)) (ms : List MatchLine) → Given head names ms → All (IsNamed names) (order_of names ms)
  all_from head names ms g =
      let each : (k : ℕ) → k < length names → IsNamed names (name_at names k) = λ k below. (k, below, refl) in
      let own : All (IsNamed names) names = λ k d below. (k, below, get_or_default names k [] d below) in
      holds_on law (IsNamed names) (match_names names ms ++ names) (All-append (IsNamed names) (match_names names ms) names (matches_hold (IsNamed names) names head ms each g.playable) own)

  once_each : (head : Head) (names : List (List ℕ)) (ms : List MatchLine) → Given head names ms → IsOnceEach (length (order_of names ms)) (places_in (order_of names ms) names)
  once_each head names ms g =
      let order : List (List ℕ) = order_of names ms in
      let many : length (places_in order names) ≡ length names = length-map names (place_in order) in
      record {
        below = All-map (λ (place : ℕ). place < length order) (place_in order) names (all_named names ms);
        all = λ place below.
            let from = all_from head names ms g place [] below in
            let there : get_or (places_in order names) from.0 place ≡ moved names ms from.0 = get_or-map (place_in order) names from.0 [] place from.1 in
            listed (places_in order names) place (from.0, omega (arith, many, from.1), there ∙ ap (place_in order) from.2 ∙ law.differ (match_names names ms ++ names) place below);
        once = λ i j d less below same.
            let right : j < length names = omega (arith, many, below) in
            let left : i < length names = omega (arith, less, right) in
            let places : moved names ms i ≡ moved names ms j = sym (get_or-map (place_in order) names i [] d left) ∙ same ∙ get_or-map (place_in order) names j [] d right in
            let equal : i ≡ j = moved_apart names ms g.different i j left right places in
            omega (arith, less, equal);
      }

  -- ---- the report is valid

  moved_is : (head : Head) (names : List (List ℕ)) (ms : List MatchLine) → (line : MatchLine) → IsMatchOf (length names) head line → IsMatchOf (length (order_of names ms)) head (moved_match names (order_of names ms) line)
  moved_is head names ms line v = record {
    left = moved_below names ms line.left v.left;
    right = moved_below names ms line.right v.right;
    showable = record {
      some_turns = v.showable.some_turns;
      few_turns = v.showable.few_turns;
      left = v.showable.left;
      right = v.showable.right;
      counts = counts_kept head line (moved_match names (order_of names ms) line) line.tally refl refl refl v.showable.counts;
    };
  }

  table_is : (head : Head) (names : List (List ℕ)) (totals : Totals) → Given head names totals.matches → 1 ≤ length names → length names ≤ 64 → AreResults (length names) head totals
      → IsTable (length (order_of names totals.matches)) head (moved_matches names (order_of names totals.matches) totals.matches) (places_in (order_of names totals.matches) names) totals.entries
  table_is head names totals g some few results =
      let ms : List MatchLine = totals.matches in
      let order : List (List ℕ) = order_of names ms in
      let f : MatchLine → MatchLine = moved_match names order in
      let many : length (entries_of (length names) ms) ≡ length names = length-map-range_with_len (entry_of (length names) ms) 0 (length names) in
      let few_moved : length (moved_matches names order ms) ≤ 2080 = omega (arith, length-map ms f, results.few_matches) in
      let table : IsTable (length order) head (moved_matches names order ms) (places_in order names) (entries_of (length names) ms) = record {
        few_matches = few_moved;
        some_entries = omega (arith, many, some);
        few_entries = omega (arith, many, few);
        playable = All-map (IsMatchOf (length order) head) f ms (λ k d below. moved_is head names ms (get_or ms k d) (g.playable k d below));
        each_once = once_each head names ms g;
        counted = all_kept head names ms g;
        ranked = all_ranked (length names) ms;
      } in
      subst (IsTable (length order) head (moved_matches names order ms) (places_in order names)) (sym results.entries) table

  -- each name of the report is one of the entries', so it has a noise
  pub have_noises : (head : Head) (names : List (List ℕ)) (ms : List MatchLine) (count : ℕ) → Given head names ms → count ≡ length names → All (λ name. place_in names name < count) (order_of names ms)
  have_noises head names ms count g same k d below =
      let from = all_from head names ms g k d below in
      let place : place_in names (get_or (order_of names ms) k d) < length names = subst (λ (name : List ℕ). place_in names name < length names) from.2 (found_below names from.0 from.1) in
      omega (arith, same, place)

  pub valid : (head : Head) (names : List (List ℕ)) (noises : List FlipRate) (totals : Totals) → IsHead head → IsGame head.game → IsFlipRate head.noise → Given head names totals.matches → 1 ≤ length names → length names ≤ 64 → AreResults (length names) head totals
      → All IsFlipRate (noises_in_order head.version names noises (order_of names totals.matches)) → IsValid (tournament_report_of head names noises totals)
  valid head names noises totals is_head is_game is_noise g some few results are_noises =
      let ms : List MatchLine = totals.matches in
      let order : List (List ℕ) = order_of names ms in
      let own : All IsName (match_names names ms) = matches_hold IsName names head ms (λ k below. g.are_names k [] below) g.playable in
      let first : match_names order (moved_matches names order ms) ≡ match_names names ms = names_shown names head ms ms g.playable in
      let last : map (name_at order) (places_in order names) ≡ names = entries_shown order names (all_named names ms) in
      record {
        head = is_head;
        game = is_game;
        noise = is_noise;
        own = noises_count (eqb head.version 1) head.version names noises order refl;
        are_noises = are_noises;
        fixed = tt;
        are_names = holds_on law IsName (match_names names ms ++ names) (All-append IsName (match_names names ms) names own g.are_names);
        shown = rw (first, last) refl;
        body = table_is head names totals g some few results;
      }

abbrev report_with : Head → List FlipRate → List (List ℕ) → List MatchLine → List ℕ → List EntryLine → Report
report_with head noises names ms who es = record {
  version = head.version;
  offset = head.offset;
  game = head.game;
  noise = head.noise;
  noises = noises;
  names = names;
  body = bodies.Tournament ms who es;
}

same_report : (head : Head) (a b : List FlipRate) (names order : List (List ℕ)) (ms ns : List MatchLine) (who whom : List ℕ) (es fs : List EntryLine)
    → a ≡ b → names ≡ order → ms ≡ ns → who ≡ whom → es ≡ fs → report_with head a names ms who es ≡ report_with head b order ns whom fs
same_report head a b names order ms ns who whom es fs e1 e2 e3 e4 e5 = cc

-- the order of names is that of all matches
pub order_is_all : (names order : List (List ℕ)) (slice ms : List MatchLine) → slice ≡ ms → order ≡ names_in_order names slice → order ≡ order_of names ms
order_is_all names order slice ms slice_is order_is = order_is ∙ ap (names_in_order names) slice_is

-- the report whose parts were made one by one
pub valid_made : (law : NamesGrow) (head : Head) (names : List (List ℕ)) (noises : List FlipRate) (totals : Totals) (own : List FlipRate) (order : List (List ℕ)) (slice ms : List MatchLine) (who : List ℕ) (es : List EntryLine)
    → IsHead head → IsGame head.game → IsFlipRate head.noise → Given head names totals.matches → 1 ≤ length names → length names ≤ 64 → AreResults (length names) head totals → All IsFlipRate own
    → slice ≡ totals.matches → own ≡ noises_in_order head.version names noises order → order ≡ names_in_order names slice → ms ≡ moved_matches names order slice → who ≡ places_in order names → es ≡ totals.entries
    → IsValid (report_with head own order ms who es)
valid_made law head names noises totals own order slice ms who es is_head is_game is_noise g some few results are_noises slice_is own_is order_is ms_are who_is es_are =
    let all : order ≡ order_of names totals.matches = order_is_all names order slice totals.matches slice_is order_is in
    let owns : own ≡ noises_in_order head.version names noises (order_of names totals.matches) = own_is ∙ ap (noises_in_order head.version names noises) all in
    let moved : ms ≡ moved_matches names (order_of names totals.matches) totals.matches =
    ms_are ∙ ap (moved_matches names order) slice_is ∙ ap (λ (o : List (List ℕ)). moved_matches names o totals.matches) all in
    let places : who ≡ places_in (order_of names totals.matches) names = who_is ∙ ap (λ (o : List (List ℕ)). places_in o names) all in
    let v : IsValid (tournament_report_of head names noises totals) = valid law head names noises totals is_head is_game is_noise g some few results (subst (All IsFlipRate) owns are_noises) in
    subst IsValid
    (sym (same_report head own (noises_in_order head.version names noises (order_of names totals.matches)) order (order_of names totals.matches) ms (moved_matches names (order_of names totals.matches) totals.matches) who
    (places_in (order_of names totals.matches) names) es totals.entries owns all moved places es_are)) v
