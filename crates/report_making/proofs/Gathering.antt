-- Names that are gathered, each where it first comes.
use Rattle.std.proofs.Common.{◌≡◌, ℕ, ◌+◌, ◌≤◌, Bool, true, false, cond, List, [], ◌∷◌, ◌++◌, length, refl, arith, length-append}
use Rattle.std.specs.List.{All, Contains}
use Rattle.std.proofs.lemmas.List.Elements.{All-contains, All-weaker}
use Rattle.report_names.specs.Names.{NamesGrow, is_among, with_name, with_names}

pub names_then : (names xs ys : List (List ℕ)) → with_names names (xs ++ ys) ≡ with_names (with_names names xs) ys
names_then names [] ys = refl
names_then names (x ∷ xs) ys = names_then (with_name names x) xs ys

longer_by : (t : Bool) (names : List (List ℕ)) (name : List ℕ) → length (cond t names (names ++ name ∷ [])) ≤ length names + 1
longer_by true names name = omega arith
longer_by false names name = omega (arith, length-append names (name ∷ []))

-- one name makes them longer by one at most
pub one_longer : (names : List (List ℕ)) (name : List ℕ) → length (with_name names name) ≤ length names + 1
one_longer names name = longer_by (is_among name names) names name

-- what holds of names holds of those that are gathered from them
pub holds_on : NamesGrow → (P : List ℕ → Type 0) (xs : List (List ℕ)) → All P xs → All P (with_names [] xs)
holds_on law P xs all = All-weaker (Contains xs) P (λ x among. All-contains P xs x all among) (with_names [] xs) (law.no_other xs)
