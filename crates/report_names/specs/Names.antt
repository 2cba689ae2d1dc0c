-- Names in a report: each once, in order of first appearance.
use Rattle.std.specs.Prelude.{ℕ, ◌≡◌, ◌+◌, ◌<◌, ◌&&◌, ◌||◌, nat_lt, All, Bool, Contains, List, [], ◌∷◌, ◌++◌, length, slice_index_or, if◌then◌else◌, bytes_eq}
use Rattle.std.specs.List.{list_any}

-- the name at a place, counted from 0
abbrev pub name_at : List (List ℕ) → ℕ → List ℕ
name_at names place = slice_index_or names place []

-- it is one of these names
abbrev pub is_among : List ℕ → List (List ℕ) → Bool
is_among name names = list_any (λ other. bytes_eq other name) names

-- a name behind these, unless it is one of them
abbrev pub with_name : List (List ℕ) → List ℕ → List (List ℕ)
with_name names name = if is_among name names then names else names ++ name ∷ []

-- names behind these, each where it first comes
abbrev pub with_names : List (List ℕ) → List (List ℕ) → List (List ℕ)
with_names names [] = names
with_names names (name ∷ more) = with_names (with_name names name) more

-- the place of a name; behind all where it isn't one of them
abbrev pub place_in : List (List ℕ) → List ℕ → ℕ
place_in [] name = 0
place_in (other ∷ others) name = if bytes_eq other name then 0 else place_in others name + 1

-- a name that was shown, or the next of all names behind those that were shown
abbrev pub comes : List (List ℕ) → List (List ℕ) → List ℕ → Bool
comes all shown name = is_among name shown || (nat_lt (length shown) (length all) && bytes_eq (name_at all (length shown)) name)

-- the same of two names, of which the second is shown behind the first
abbrev pub both_come : List (List ℕ) → List (List ℕ) → List ℕ → List ℕ → Bool
both_come all shown first second = comes all shown first && comes all (with_name shown first) second

-- the law of names that are gathered, each where it first comes
pub record NamesGrow : Type 0 where
  -- each of them has a place, behind whatever names they came
  pub placed : (names xs : List (List ℕ)) → All (λ name. place_in (with_names names xs) name < length (with_names names xs)) xs
  -- one that has a place stands there
  pub stands : (names : List (List ℕ)) (name : List ℕ) → place_in names name < length names → name_at names (place_in names name) ≡ name
  -- no two of them are one
  pub differ : (xs : List (List ℕ)) (k : ℕ) → k < length (with_names [] xs) → place_in (with_names [] xs) (name_at (with_names [] xs) k) ≡ k
  -- there are no others
  pub no_other : (xs : List (List ℕ)) → All (Contains xs) (with_names [] xs)
