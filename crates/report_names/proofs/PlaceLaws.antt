-- Names and their places.
use Rattle.std.proofs.Common.{◌≡◌, ℕ, suc, ◌+◌, ◌<◌, ◌≤◌, Bool, true, false, cond, ltb, ◌||◌, List, [], ◌∷◌, ◌++◌, length, refl, sym, ap, ◌∙◌, arith, length-append, add-one, inl, inr, ◌⊎◌, subst}
use Rattle.std.specs.Str.{bytes_eq}
use Rattle.std.proofs.lemmas.Bool.Decides.{nat_tests}
use Rattle.std.proofs.lemmas.Slice.Eq.{bytes_eq-Decides}
use Rattle.std.proofs.lemmas.List.{get_or_append_left, get_or_push}
use Rattle.std.proofs.lemmas.List.Elements.{All-push}
use Rattle.std.specs.List.{All}
use Rattle.report_names.specs.Names.{name_at, is_among, with_name, place_in}

cond_le : (t : Bool) (a b : ℕ) → a ≤ b → cond t 0 (a + 1) ≤ suc b
cond_le true a b h = omega arith
cond_le false a b h = omega arith

pub place_le : (names : List (List ℕ)) (name : List ℕ) → place_in names name ≤ length names
place_le [] name = omega arith
place_le (other ∷ others) name = cond_le (bytes_eq other name) (place_in others name) (length others) (place_le others name)

among_by : (t : Bool) (a : Bool) (k l : ℕ) → a ≡ ltb k l → (t || a) ≡ ltb (cond t 0 (k + 1)) (suc l)
among_by true a k l h =
    let first : ltb 0 (suc l) ≡ true = grind (arith, nat_tests) in
    sym first
among_by false a k l h =
    let next : ltb k l ≡ ltb (k + 1) (suc l) = grind (arith, nat_tests) in
    h ∙ next

pub among_is : (names : List (List ℕ)) (name : List ℕ) → is_among name names ≡ ltb (place_in names name) (length names)
among_is [] name = refl
among_is (other ∷ others) name = among_by (bytes_eq other name) (is_among name others) (place_in others name) (length others) (among_is others name)

pub with_old : (names : List (List ℕ)) (name : List ℕ) → place_in names name < length names → with_name names name ≡ names
with_old names name h =
    let among : is_among name names ≡ true = among_is names name ∙ grind (arith, nat_tests) in
    rw among refl

pub with_new : (names : List (List ℕ)) (name : List ℕ) → place_in names name ≡ length names → with_name names name ≡ names ++ name ∷ []
with_new names name h =
    let among : is_among name names ≡ false = among_is names name ∙ grind (arith, nat_tests) in
    rw among refl

-- behind names that it isn't one of, a name stands at their number
step_new : (t : Bool) (rest : List (List ℕ)) (name : List ℕ) → cond t 0 (place_in rest name + 1) ≡ suc (length rest) → (place_in rest name ≡ length rest → place_in (rest ++ name ∷ []) name ≡ length rest)
    → cond t 0 (place_in (rest ++ name ∷ []) name + 1) ≡ suc (length rest)
step_new true rest name h more = absurd (omega (arith, h))
step_new false rest name h more = omega (arith, more (omega (arith, h)))

same : (name : List ℕ) → bytes_eq name name ≡ true
same name = (bytes_eq-Decides name name).1 refl

pub place_new : (names : List (List ℕ)) (name : List ℕ) → place_in names name ≡ length names → place_in (names ++ name ∷ []) name ≡ length names
place_new [] name h = rw (same name) refl
place_new (other ∷ others) name h = step_new (bytes_eq other name) others name h (place_new others name)

-- ---- names stand at their places, and more names move none

append_by : (t : Bool) (rest more : List (List ℕ)) (other : List ℕ) → cond t 0 (place_in rest other + 1) < suc (length rest)
    → (place_in rest other < length rest → place_in (rest ++ more) other ≡ place_in rest other)
    → cond t 0 (place_in (rest ++ more) other + 1) ≡ cond t 0 (place_in rest other + 1)
append_by true rest more other h same = refl
append_by false rest more other h same = ap (λ (k : ℕ). k + 1) (same (omega (arith, h)))

pub append_moves_none : (names more : List (List ℕ)) (other : List ℕ) → place_in names other < length names → place_in (names ++ more) other ≡ place_in names other
append_moves_none [] more other h = absurd (omega (arith, h))
append_moves_none (first ∷ rest) more other h = append_by (bytes_eq first other) rest more other h (append_moves_none rest more other)

abbrev pub IsOld : List (List ℕ) → List ℕ → Type 0
IsOld names name = (place_in names name < length names) ⊎ (place_in names name ≡ length names)

le_cases : (k l : ℕ) → k ≤ l → (k < l) ⊎ (k ≡ l)
le_cases k l h = grind arith

pub is_old : (names : List (List ℕ)) (name : List ℕ) → IsOld names name
is_old names name = le_cases (place_in names name) (length names) (place_le names name)

-- what holds of names, and of names with one behind them that isn't one of them, holds of them with any name
pub either : (P : List (List ℕ) → Type 0) (names : List (List ℕ)) (name : List ℕ) → IsOld names name → (place_in names name < length names → P names) → (place_in names name ≡ length names → P (names ++ name ∷ []))
    → P (with_name names name)
either P names name (inl h) old new = subst P (sym (with_old names name h)) (old h)
either P names name (inr h) old new = subst P (sym (with_new names name h)) (new h)

pub place_below : (names : List (List ℕ)) (name : List ℕ) → place_in (with_name names name) name < length (with_name names name)
place_below names name = either (λ ns. place_in ns name < length ns) names name (is_old names name) (λ h. h) (λ h. omega (arith, place_new names name h, length-append names (name ∷ [])))

pub with_moves_none : (names : List (List ℕ)) (name other : List ℕ) → place_in names other < length names → place_in (with_name names name) other ≡ place_in names other
with_moves_none names name other h = either (λ ns. place_in ns other ≡ place_in names other) names name (is_old names name) (λ _. refl) (λ _. append_moves_none names (name ∷ []) other h)

pub longer : (names : List (List ℕ)) (name : List ℕ) → length names ≤ length (with_name names name)
longer names name = either (λ ns. length names ≤ length ns) names name (is_old names name) (λ _. omega arith) (λ _. omega (arith, length-append names (name ∷ [])))

pub name_stays : (names : List (List ℕ)) (name : List ℕ) (k : ℕ) → k < length names → name_at (with_name names name) k ≡ name_at names k
name_stays names name k h = either (λ ns. name_at ns k ≡ name_at names k) names name (is_old names name) (λ _. refl) (λ _. get_or_append_left names (name ∷ []) [] k h)

-- a name that has a place stands there
at_step : (t : Bool) (first name : List ℕ) (rest : List (List ℕ)) → t ≡ bytes_eq first name → cond t 0 (place_in rest name + 1) < suc (length rest) → (place_in rest name < length rest → name_at rest (place_in rest name) ≡ name)
    → name_at (first ∷ rest) (cond t 0 (place_in rest name + 1)) ≡ name
at_step true first name rest e h more = (bytes_eq-Decides first name).0 (sym e)
at_step false first name rest e h more = rw (add-one (place_in rest name)) (more (omega (arith, h)))

pub stands_there : (names : List (List ℕ)) (name : List ℕ) → place_in names name < length names → name_at names (place_in names name) ≡ name
stands_there [] name h = absurd (omega (arith, h))
stands_there (first ∷ rest) name h = at_step (bytes_eq first name) first name rest refl h (stands_there rest name)

-- ---- names that differ

abbrev pub Differ : List (List ℕ) → Type 0
Differ names = (k : ℕ) → k < length names → place_in names (name_at names k) ≡ k

last_or_not : (k l : ℕ) → k < l + 1 → (k < l) ⊎ (k ≡ l)
last_or_not k l h = le_cases k l (omega (arith, h))

push_differ : (names : List (List ℕ)) (name : List ℕ) → Differ names → place_in names name ≡ length names → (k : ℕ) → (k < length names) ⊎ (k ≡ length names) → place_in (names ++ name ∷ []) (name_at (names ++ name ∷ []) k) ≡ k
push_differ names name d h k (inl lt) =
    let there : place_in names (name_at names k) ≡ k = d k lt in
    ap (place_in (names ++ name ∷ [])) (get_or_append_left names (name ∷ []) [] k lt) ∙ append_moves_none names (name ∷ []) (name_at names k) (omega (arith, there, lt)) ∙ there
push_differ names name d h k (inr e) =
    ap (place_in (names ++ name ∷ [])) (get_or_push names name [] k (sym e)) ∙ place_new names name h ∙ sym e

pub with_differ : (names : List (List ℕ)) (name : List ℕ) → Differ names → Differ (with_name names name)
with_differ names name d = either Differ names name (is_old names name) (λ _. d)
    (λ h k lt. push_differ names name d h k (last_or_not k (length names) (omega (arith, lt, length-append names (name ∷ [])))))

pub none_differ : Differ []
none_differ k h = absurd (omega (arith, h))

pub with_all : (P : List ℕ → Type 0) (names : List (List ℕ)) (name : List ℕ) → All P names → P name → All P (with_name names name)
with_all P names name all one = either (All P) names name (is_old names name) (λ _. all) (λ _. All-push P names name all one)
