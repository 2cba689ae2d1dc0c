-- Names that grow: what stands in them stays.
use Rattle.std.proofs.Common.{◌≡◌, ℕ, suc, ◌+◌, ◌<◌, ◌≤◌, List, [], ◌∷◌, ◌++◌, length, refl, sym, ◌∙◌, arith, length-append}
use Rattle.std.specs.List.{All, Contains}
use Rattle.std.proofs.lemmas.List.Elements.{All-cons, All-contains_itself, All-nil}
use Rattle.report_names.specs.Names.{name_at, with_name, with_names, place_in}
use Rattle.report_names.proofs.PlaceLaws.{Differ, either, is_old, longer, name_stays, none_differ, place_below, place_new, with_all, with_differ, with_moves_none}

-- ---- elements

pub all_head : {X : Type 0} (P : X → Type 0) (x : X) (xs : List X) → All P (x ∷ xs) → P x
all_head P x xs all = all 0 x (omega arith)

pub all_tail : {X : Type 0} (P : X → Type 0) (x : X) (xs : List X) → All P (x ∷ xs) → All P xs
all_tail P x xs all k d h = all (suc k) d (omega (arith, h))

-- ---- names

pub record Grows (names more : List (List ℕ)) : Type 0 where
  pub longer : length names ≤ length more
  pub stays : (k : ℕ) → k < length names → name_at more k ≡ name_at names k
  pub moves_none : (name : List ℕ) → place_in names name < length names → place_in more name ≡ place_in names name

pub grows_none : (names : List (List ℕ)) → Grows names names
grows_none names = record { longer = omega arith; stays = λ k h. refl; moves_none = λ name h. refl }

pub grows_one : (names : List (List ℕ)) (name : List ℕ) → Grows names (with_name names name)
grows_one names name = record { longer = longer names name; stays = name_stays names name; moves_none = with_moves_none names name }

pub grows_on : (a b c : List (List ℕ)) → Grows a b → Grows b c → Grows a c
grows_on a b c ab bc = record {
  longer = omega (arith, ab.longer, bc.longer);
  stays = λ k h. bc.stays k (omega (arith, h, ab.longer)) ∙ ab.stays k h;
  moves_none = λ name h. let same = ab.moves_none name h in bc.moves_none name (omega (arith, h, same, ab.longer)) ∙ same;
}

pub grows_all : (names xs : List (List ℕ)) → Grows names (with_names names xs)
grows_all names [] = grows_none names
grows_all names (x ∷ xs) = grows_on names (with_name names x) (with_names (with_name names x) xs) (grows_one names x) (grows_all (with_name names x) xs)

pub all_differ : (names xs : List (List ℕ)) → Differ names → Differ (with_names names xs)
all_differ names [] d = d
all_differ names (x ∷ xs) d = all_differ (with_name names x) xs (with_differ names x d)

pub names_then : (names xs ys : List (List ℕ)) → with_names names (xs ++ ys) ≡ with_names (with_names names xs) ys
names_then names [] ys = refl
names_then names (x ∷ xs) ys = names_then (with_name names x) xs ys

-- where a name stands with it, it stands without it, or would come next
pub place_kept : (names : List (List ℕ)) (name : List ℕ) → place_in (with_name names name) name ≡ place_in names name
place_kept names name =
    either (λ ns. place_in ns name ≡ place_in names name) names name (is_old names name) (λ _. refl) (λ h. place_new names name h ∙ sym h)

pub one_longer : (names : List (List ℕ)) (name : List ℕ) → length (with_name names name) ≤ length names + 1
one_longer names name = either (λ ns. length ns ≤ length names + 1) names name (is_old names name) (λ _. omega arith) (λ _. omega (arith, length-append names (name ∷ [])))

-- each of some names has a place among all
pub named_in : (ns xs : List (List ℕ)) → All (λ name. place_in (with_names ns xs) name < length (with_names ns xs)) xs
named_in ns [] = All-nil (λ name. place_in ns name < length ns)
named_in ns (x ∷ xs) =
    let first : List (List ℕ) = with_name ns x in
    let all : List (List ℕ) = with_names first xs in
    let grows = grows_all first xs in
    let here : place_in all x < length all = omega (arith, place_below ns x, grows.moves_none x (place_below ns x), grows.longer) in
    All-cons (λ (name : List ℕ). place_in all name < length all) x xs here (named_in first xs)

-- what holds of names, and of others, holds of all
both_hold : (P : List ℕ → Type 0) (ns xs : List (List ℕ)) → All P ns → All P xs → All P (with_names ns xs)
both_hold P ns [] all more = all
both_hold P ns (x ∷ xs) all more = both_hold P (with_name ns x) xs (with_all P ns x all (all_head P x xs more)) (all_tail P x xs more)

pub no_other : (xs : List (List ℕ)) → All (Contains xs) (with_names [] xs)
no_other xs = both_hold (Contains xs) [] xs (All-nil (Contains xs)) (All-contains_itself xs)

pub gathered_differ : (xs : List (List ℕ)) → Differ (with_names [] xs)
gathered_differ xs = all_differ [] xs none_differ
