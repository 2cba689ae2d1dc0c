-- What the tests of a tournament's lines say, both ways.
use Rattle.std.proofs.Common.{◌≡◌, ℕ, zero, suc, ◌+◌, ◌*◌, ◌^◌, ◌<◌, ◌≤◌, Bool, true, false, not, eqb, ◌&&◌, List, [], ◌∷◌, ◌++◌, length, map, take, drop, get_or, pos, neg_ℤ, ◌≤ℤ◌, Option, Some, None, if◌then◌else◌, refl, sym, ap, ◌∙◌, arith, length-append}
use Rattle.std.specs.Prelude.{◌≢◌}
use Rattle.std.specs.List.{All, AllPairs, AllZip, Contains, list_all, range_with_len}
use Rattle.std.proofs.Math.Seq.{get_or-append_seam}
use Rattle.std.proofs.lemmas.Bool.{eqb-true}
use Rattle.std.proofs.lemmas.Bool.Decides.{nat_tests}
use Rattle.std.proofs.lemmas.Int.{ints}
use Rattle.std.proofs.lemmas.List.{get_or_append_left, get_or_default, length-drop, length-map, length-take}
use Rattle.std.proofs.lemmas.List.Elements.{All-nil, All-cons}
use Rattle.std.proofs.lemmas.List.Folds.{Any-from_list_any, list_any-from_Any}
use Rattle.std.proofs.lemmas.List.FromFn.{get_or-range_with_len, length-range_with_len}
use Rattle.std.proofs.lemmas.List.Recursion.{and_at}
use Rattle.std.proofs.lemmas.List.Sums.{count_by-le-length}
use Rattle.history_model.specs.Name.{is_name, IsName}
use Rattle.fixed_span.specs.Span.{Ends, add, point}
use Rattle.fixed_span.specs.Verdict.{verdict}
use Rattle.result_lines.specs.declared.line.MatchLine.{MatchLine}
use Rattle.result_lines.specs.declared.ranking.Rank.{Rank}
use Rattle.result_lines.specs.declared.ranking.Rank.TheVariants as ranks
use Rattle.result_lines.specs.declared.tables.EntryLine.{EntryLine}
use Rattle.result_lines.specs.Ranks.{is_greater, rank_of, ranks_of, others, span_at, undecided_among, greater_among}
use Rattle.result_lines.specs.Totals.{own_score, total_of, wins_of, undecided_of, wins_match, leaves_undecided}
use Rattle.report_lines.specs.declared.line.ShownEntry.{ShownEntry}
use Rattle.report_lines.specs.declared.line.Line.{Line}
use Rattle.report_lines.specs.Texts.{is_total, is_count, is_rank, is_entry}
use Rattle.report_names.specs.Names.{name_at}
use Rattle.report_rules.specs.declared.report.Head.{Head}
use Rattle.report_rules.specs.MatchRules.{same_ends}
use Rattle.report_rules.specs.TableRules.{rank_read, unnamed, adds_up, totals_in, same_rank, ranked_from, are_ranked}
use Rattle.report_names.specs.Places.{is_listed, are_listed}
use Rattle.report_rules.specs.Text.{rank_shown, shown_entry, side_by_side}
use Rattle.report_rules.specs.Valid.{IsScore, IsMatchOf, IsCountedIn}
use Rattle.report_names.proofs.Growth.{all_head, all_tail}
use Rattle.report_rules.proofs.Ranges.{both_true, both_back, same_number, ends_are, ends_back, int_le_back, wide}

-- ---- ranks

rank_is : (a b : Rank) → same_rank a b ≡ true → a ≡ b
rank_is (ranks.At a) (ranks.At b) h = ap (λ (k : ℕ). ranks.At k) (eqb-true a b h)
rank_is ranks.Undecided ranks.Undecided h = refl
rank_is (ranks.At a) ranks.Undecided h = absurd cc
rank_is ranks.Undecided (ranks.At b) h = absurd cc

rank_itself : (a : Rank) → same_rank a a ≡ true
rank_itself (ranks.At a) = same_number a
rank_itself ranks.Undecided = refl

abbrev pub ranks_in : List EntryLine → List Rank
ranks_in entries = map (λ entry. entry.rank) entries

ranked_to : (totals : List Ends) (k : ℕ) (es : List EntryLine) → ranked_from totals k es ≡ true → ranks_in es ≡ map (rank_of totals) (range_with_len k (length es))
ranked_to totals k [] h = refl
ranked_to totals k (e ∷ es) h =
    let b = both_true (same_rank e.rank (rank_of totals k)) (ranked_from totals (k + 1) es) h in
    rw (rank_is e.rank (rank_of totals k) b.0, ranked_to totals (k + 1) es b.1) refl

cons_parts : (a b : Rank) (us vs : List Rank) → a ∷ us ≡ b ∷ vs → (a ≡ b) × (us ≡ vs)
cons_parts a b us vs e = (cc, cc)

rank_same : (a b : Rank) → a ≡ b → same_rank a b ≡ true
rank_same a b e = ap (λ (r : Rank). same_rank r b) e ∙ rank_itself b

ranked_back_from : (totals : List Ends) (k : ℕ) (es : List EntryLine) → ranks_in es ≡ map (rank_of totals) (range_with_len k (length es)) → ranked_from totals k es ≡ true
ranked_back_from totals k [] h = refl
ranked_back_from totals k (e ∷ es) h =
    let c = cons_parts e.rank (rank_of totals k) (ranks_in es) (map (rank_of totals) (range_with_len (k + 1) (length es))) h in
    both_back (same_rank e.rank (rank_of totals k)) (ranked_from totals (k + 1) es) (rank_same e.rank (rank_of totals k) c.0) (ranked_back_from totals (k + 1) es c.1)

as_many : (es : List EntryLine) → length (totals_in es) ≡ length es
as_many es = length-map es (λ (e : EntryLine). e.total)

abbrev ranks_over : List EntryLine → ℕ → List Rank
ranks_over es n = map (rank_of (totals_in es)) (range_with_len 0 n)

pub ranked_is : (es : List EntryLine) → are_ranked es ≡ true → ranks_in es ≡ ranks_of (totals_in es)
ranked_is es h = ranked_to (totals_in es) 0 es h ∙ ap (ranks_over es) (sym (as_many es))

pub ranked_over : (es : List EntryLine) → ranks_in es ≡ ranks_of (totals_in es) → ranks_in es ≡ map (rank_of (totals_in es)) (range_with_len 0 (length es))
ranked_over es h = h ∙ ap (ranks_over es) (as_many es)

pub ranked_back : (es : List EntryLine) → ranks_in es ≡ ranks_of (totals_in es) → are_ranked es ≡ true
ranked_back es h = ranked_back_from (totals_in es) 0 es (ranked_over es h)

-- a rank among few totals is a small number
rank_by : (t : Bool) (n : ℕ) → n ≤ 64 → is_rank (rank_shown (if t then ranks.Undecided else ranks.At (1 + n))) ≡ true
rank_by true n few = refl
rank_by false n few = grind (arith, nat_tests)

few_others : (spans : List Ends) (i : ℕ) → length (others spans i) ≤ length spans
few_others spans i = omega (arith, length-append (take i spans) (drop (i + 1) spans), length-take i spans, length-drop (i + 1) spans)

rank_in : (spans : List Ends) (i : ℕ) → length spans ≤ 64 → is_rank (rank_shown (rank_of spans i)) ≡ true
rank_in spans i few =
    let own : Ends = span_at spans i in
    let few_greater : greater_among (others spans i) own ≤ length (others spans i) = count_by-le-length (λ (other : Ends). is_greater (verdict other own)) (others spans i) in
    rank_by (undecided_among (others spans i) own) (greater_among (others spans i) own) (omega (arith, few, few_greater, few_others spans i))

abbrev pub IsRanked : EntryLine → Type 0
IsRanked e = is_rank (rank_shown e.rank) ≡ true

ranks_in_range : (spans : List Ends) (k : ℕ) (es : List EntryLine) → length spans ≤ 64 → ranks_in es ≡ map (rank_of spans) (range_with_len k (length es)) → All IsRanked es
ranks_in_range spans k [] few h = All-nil IsRanked
ranks_in_range spans k (e ∷ es) few h =
    let c = cons_parts e.rank (rank_of spans k) (ranks_in es) (map (rank_of spans) (range_with_len (k + 1) (length es))) h in
    All-cons IsRanked e es (ap (λ (rank : Rank). is_rank (rank_shown rank)) c.0 ∙ rank_in spans k few) (ranks_in_range spans (k + 1) es few c.1)

pub all_in_range : (es : List EntryLine) → length es ≤ 64 → ranks_in es ≡ ranks_of (totals_in es) → All IsRanked es
all_in_range es few h = ranks_in_range (totals_in es) 0 es (omega (arith, few, as_many es)) (ranked_over es h)

-- ---- the entries that have a line

listed_is : (who : List ℕ) (place : ℕ) → is_listed who place ≡ true → Contains who place
listed_is who place h =
    let a = Any-from_list_any (λ (other : ℕ). eqb other place) who h in
    let same : a.1 ≡ place = eqb-true a.1 place a.4 in
    (a.0, a.2, get_or_default who a.0 place a.1 a.2 ∙ a.3 ∙ same)

pub listed_back : (who : List ℕ) (place : ℕ) → Contains who place → is_listed who place ≡ true
listed_back who place c = list_any-from_Any (λ (other : ℕ). eqb other place) who (c.0, place, c.1, c.2, same_number place)

pub all_listed : (count : ℕ) (who : List ℕ) → are_listed count who ≡ true → (place : ℕ) → place < count → is_listed who place ≡ true
all_listed count who h place below =
    let at : get_or (range_with_len 0 count) place 0 ≡ place = omega (arith, get_or-range_with_len 0 count place 0 below) in
    let inside : place < length (range_with_len 0 count) = omega (arith, below, length-range_with_len 0 count) in
    let listed : is_listed who (get_or (range_with_len 0 count) place 0) ≡ true = and_at (list_all (is_listed who)) (is_listed who) refl (λ _ _. refl) (range_with_len 0 count) place 0 inside h in
    ap (is_listed who) (sym at) ∙ listed

listed_from : (a n : ℕ) (who : List ℕ) → ((place : ℕ) → place < a + n → is_listed who place ≡ true) → list_all (is_listed who) (range_with_len a n) ≡ true
listed_from a zero who h = refl
listed_from a (suc n) who h =
    both_back (is_listed who a) (list_all (is_listed who) (range_with_len (a + 1) n)) (h a (omega arith))
    (listed_from (a + 1) n who (λ place below. h place (omega (arith, below))))

pub listed_all : (count : ℕ) (who : List ℕ) → ((place : ℕ) → place < count → is_listed who place ≡ true) → are_listed count who ≡ true
listed_all count who h = listed_from 0 count who (λ place below. h place (omega (arith, below)))

opposite : (t : Bool) → not t ≡ true → t ≡ true → ⊥
opposite true h e = absurd cc
opposite false h e = absurd cc

-- an entry without a line differs from each that has one
pub unlisted_is : (who : List ℕ) (place : ℕ) → not (is_listed who place) ≡ true → (k d : ℕ) → k < length who → get_or who k d ≢ place
unlisted_is who place h k d lt same = opposite (is_listed who place) h (listed_back who place (k, lt, get_or_default who k place d lt ∙ same))

not_by : (t : Bool) → (t ≡ true → ⊥) → not t ≡ true
not_by true h = absurd (h refl)
not_by false h = refl

pub unlisted_back : (who more : List ℕ) (place : ℕ) → AllPairs (λ a b. a ≢ b) (who ++ place ∷ more) → not (is_listed who place) ≡ true
unlisted_back who more place once =
    not_by (is_listed who place) (λ h.
    let c = listed_is who place h in
    let inside : length who < length (who ++ place ∷ more) = omega (arith, length-append who (place ∷ more)) in
    let first : get_or (who ++ place ∷ more) c.0 place ≡ place = get_or_append_left who (place ∷ more) place c.0 c.1 ∙ c.2 in
    let second : get_or (who ++ place ∷ more) (length who) place ≡ place = get_or-append_seam who place more place in
    once c.0 (length who) place c.1 inside (first ∙ sym second))

-- ---- totals and counts

number_back : (a b : ℕ) → a ≡ b → eqb a b ≡ true
number_back a b e = grind (arith, nat_tests)

pub counted_is : (ms : List MatchLine) (place : ℕ) (x : ShownEntry) → adds_up ms place x ≡ true → IsCountedIn ms place (unnamed x)
counted_is ms place x h =
    let a = both_true (same_ends x.total (total_of place ms)) (eqb x.wins (wins_of place ms) && eqb x.undecided (undecided_of place ms)) h in
    let b = both_true (eqb x.wins (wins_of place ms)) (eqb x.undecided (undecided_of place ms)) a.1 in
    record { total = ends_are x.total (total_of place ms) a.0; wins = eqb-true x.wins (wins_of place ms) b.0; undecided = eqb-true x.undecided (undecided_of place ms) b.1 }

pub counted_back : (ms : List MatchLine) (names : List (List ℕ)) (place : ℕ) (e : EntryLine) → IsCountedIn ms place e → adds_up ms place (shown_entry names place e) ≡ true
counted_back ms names place e v =
    both_back (same_ends e.total (total_of place ms)) (eqb e.wins (wins_of place ms) && eqb e.undecided (undecided_of place ms)) (ends_back e.total (total_of place ms) v.total)
    (both_back (eqb e.wins (wins_of place ms)) (eqb e.undecided (undecided_of place ms)) (number_back e.wins (wins_of place ms) v.wins) (number_back e.undecided (undecided_of place ms) v.undecided))

rank_again : (rank : Rank) → rank_read (rank_shown rank) ≡ rank
rank_again (ranks.At k) = refl
rank_again ranks.Undecided = refl

abbrev entry_with : EntryLine → Rank → EntryLine
entry_with e rank = record { total = e.total; rank = rank; wins = e.wins; undecided = e.undecided }

pub unnamed_again : (names : List (List ℕ)) (place : ℕ) (e : EntryLine) → unnamed (shown_entry names place e) ≡ e
unnamed_again names place e = ap (entry_with e) (rank_again e.rank)

rank_shown_again : (rank : Option ℕ) → rank_shown (rank_read rank) ≡ rank
rank_shown_again None = refl
rank_shown_again (Some k) = refl

abbrev shown_with : List ℕ → ShownEntry → Option ℕ → ShownEntry
shown_with name x rank = record { name = name; total = x.total; rank = rank; wins = x.wins; undecided = x.undecided }

pub shown_again : (names : List (List ℕ)) (place : ℕ) (x : ShownEntry) → name_at names place ≡ x.name → shown_entry names place (unnamed x) ≡ x
shown_again names place x e = ap (λ (name : List ℕ). shown_with name x (rank_shown (rank_read x.rank))) e ∙ ap (shown_with x.name x) (rank_shown_again x.rank)

-- ---- what matches give is in range

-- the sum of so many scores
record IsSum (n : ℕ) (span : Ends) : Type 0 where
  low : neg_ℤ (pos (n * 10 ^ 33)) ≤ℤ span.lo
  ordered : span.lo ≤ℤ span.hi
  high : span.hi ≤ℤ pos (n * 10 ^ 33)

own_by : (left right : Bool) (a b : Ends) → IsScore 2 a → IsScore 2 b → IsScore 2 (if left then a else if right then b else point (pos 0))
own_by true right a b h k = h
own_by false true a b h k = k
own_by false false a b h k = record { low = omega (arith, ints); ordered = omega (arith, ints); high = omega (arith, ints) }

own_in : (count : ℕ) (head : Head) (i : ℕ) (m : MatchLine) → IsMatchOf count head m → IsScore 2 (own_score i m)
own_in count head i m v =
    let s = v.showable in
    own_by (eqb m.left i) (eqb m.right i) m.left_score m.right_score (wide head.version m.left_score s.left) (wide head.version m.right_score s.right)

sum_more : (n : ℕ) (a b : Ends) → IsScore 2 a → IsSum n b → IsSum (suc n) (add a b)
sum_more n a b h k = record {
  low = omega (arith, ints, h.low, k.low);
  ordered = omega (arith, ints, h.ordered, k.ordered);
  high = omega (arith, ints, h.high, k.high);
}

total_in : (count : ℕ) (head : Head) (i : ℕ) (ms : List MatchLine) → All (IsMatchOf count head) ms → IsSum (length ms) (total_of i ms)
total_in count head i [] all = record { low = omega (arith, ints); ordered = omega (arith, ints); high = omega (arith, ints) }
total_in count head i (m ∷ ms) all =
    sum_more (length ms) (own_score i m) (total_of i ms) (own_in count head i m (all_head (IsMatchOf count head) m ms all)) (total_in count head i ms (all_tail (IsMatchOf count head) m ms all))

is_total_back : (n : ℕ) (span : Ends) → n ≤ 2080 → IsSum n span → is_total span ≡ true
is_total_back n span few h =
    let low : neg_ℤ (pos (10 ^ 37)) ≤ℤ span.lo = omega (arith, ints, few, h.low) in
    let high : span.hi ≤ℤ pos (10 ^ 37) = omega (arith, ints, few, h.high) in
    rw (int_le_back (neg_ℤ (pos (10 ^ 37))) span.lo low, int_le_back span.lo span.hi h.ordered, int_le_back span.hi (pos (10 ^ 37)) high) refl

count_back : (n : ℕ) → n ≤ 2080 → is_count n ≡ true
count_back n few = grind (arith, nat_tests)

-- what is told of an entry can be printed
pub entry_back : (head : Head) (names : List (List ℕ)) (ms : List MatchLine) (place : ℕ) (e : EntryLine) → All IsName names → place < length names → length ms ≤ 2080 → All (IsMatchOf (length names) head) ms
    → IsCountedIn ms place e → is_rank (rank_shown e.rank) ≡ true → is_entry (shown_entry names place e) ≡ true
entry_back head names ms place e are_names below few playable v rank =
    let name : is_name (name_at names place) ≡ true = are_names place [] below in
    let total : is_total e.total ≡ true = ap is_total v.total ∙ is_total_back (length ms) (total_of place ms) few (total_in (length names) head place ms playable) in
    let wins : is_count e.wins ≡ true = count_back e.wins (omega (arith, v.wins, few, count_by-le-length (wins_match place) ms)) in
    let undecided : is_count e.undecided ≡ true = count_back e.undecided (omega (arith, v.undecided, few, count_by-le-length (leaves_undecided place) ms)) in
    rw (name, total, rank, wins, undecided) refl

-- ---- lists side by side

pub zip_push : {A B : Type 0} (R : A → B → Type 0) (xs : List A) (ys : List B) (x : A) (y : B) → AllZip R xs ys → R x y → AllZip R (xs ++ x ∷ []) (ys ++ y ∷ [])
zip_push R [] [] x y z r = (r, tt)
zip_push R [] (b ∷ vs) x y z r = absurd z
zip_push R (a ∷ us) [] x y z r = absurd z
zip_push R (a ∷ us) (b ∷ vs) x y z r = (z.0, zip_push R us vs x y z.1 r)

pub zip_none : {A B : Type 0} (R : A → B → Type 0) (xs : List A) → AllZip R xs [] → xs ≡ []
zip_none R [] z = refl
zip_none R (x ∷ xs) z = absurd z

pub beside_push : {A B : Type 0} (f : A → B → Line) (xs : List A) (ys : List B) (x : A) (y : B) → length xs ≡ length ys → side_by_side f (xs ++ x ∷ []) (ys ++ y ∷ []) ≡ side_by_side f xs ys ++ f x y ∷ []
beside_push f [] [] x y same = refl
beside_push f [] (b ∷ vs) x y same = absurd (omega (arith, same))
beside_push f (a ∷ us) [] x y same = absurd (omega (arith, same))
beside_push f (a ∷ us) (b ∷ vs) x y same = ap (λ (is : List Line). f a b ∷ is) (beside_push f us vs x y (omega (arith, same)))
