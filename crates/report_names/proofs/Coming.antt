-- Names that come in the order of all names.
use Rattle.std.proofs.Common.{◌≡◌, ℕ, ◌+◌, ◌<◌, Bool, true, false, ltb, ◌&&◌, ◌||◌, List, [], ◌∷◌, ◌++◌, length, refl, sym, ap, ◌∙◌, arith, length-append, subst}
use Rattle.std.specs.Str.{bytes_eq}
use Rattle.std.proofs.Math.Bool.{or-false}
use Rattle.std.proofs.lemmas.Bool.Decides.{nat_tests}
use Rattle.std.proofs.lemmas.List.{append-nil, get_or_push}
use Rattle.std.proofs.lemmas.List.Folds.{list_any-append}
use Rattle.std.proofs.lemmas.Slice.Eq.{bytes_eq-Decides}
use Rattle.std.proofs.Math.Seq.{get_or-append_seam}
use Rattle.report_names.specs.Names.{name_at, is_among, with_name, with_names, comes, place_in}
use Rattle.report_names.proofs.Growth.{grows_all}
use Rattle.report_names.proofs.PlaceLaws.{Differ, among_is, append_moves_none}

-- ---- tests of names with one behind them

abbrev is_next : List (List ℕ) → ℕ → List ℕ → Bool
is_next all place name = ltb place (length all) && bytes_eq (name_at all place) name

pub old_stays : (names : List (List ℕ)) (name : List ℕ) → is_among name names ≡ true → with_name names name ≡ names
old_stays names name old = rw old refl

pub new_added : (names : List (List ℕ)) (name : List ℕ) → is_among name names ≡ false → with_name names name ≡ names ++ name ∷ []
new_added names name new = rw new refl

or_same : (a t : Bool) → (t ≡ true → a ≡ true) → a ≡ (a || t)
or_same true t h = refl
or_same false true h = h refl
or_same false false h = refl

same_among : (names : List (List ℕ)) (a b : List ℕ) → is_among a names ≡ true → bytes_eq a b ≡ true → is_among b names ≡ true
same_among names a b among e = ap (λ (name : List ℕ). is_among name names) (sym ((bytes_eq-Decides a b).0 e)) ∙ among

pub both_old : (all shown : List (List ℕ)) (first second : List ℕ) → is_among first shown ≡ true
    → comes all (with_name shown first) second ≡ ((is_among second shown || bytes_eq first second) || is_next all (length shown) second)
both_old all shown first second old =
    ap (λ (names : List (List ℕ)). comes all names second) (old_stays shown first old)
    ∙ ap (λ (t : Bool). t || is_next all (length shown) second) (or_same (is_among second shown) (bytes_eq first second) (same_among shown first second old))

among_then : (shown : List (List ℕ)) (first second : List ℕ) → is_among second (shown ++ first ∷ []) ≡ (is_among second shown || bytes_eq first second)
among_then shown first second =
    list_any-append (λ (other : List ℕ). bytes_eq other second) shown (first ∷ []) ∙ ap (λ (t : Bool). is_among second shown || t) (or-false (bytes_eq first second))

one_longer : (shown : List (List ℕ)) (first : List ℕ) → length (shown ++ first ∷ []) ≡ length shown + 1
one_longer shown first = length-append shown (first ∷ [])

pub both_new : (all shown : List (List ℕ)) (first second : List ℕ) → is_among first shown ≡ false
    → comes all (with_name shown first) second ≡ ((is_among second shown || bytes_eq first second) || is_next all (length shown + 1) second)
both_new all shown first second new =
    ap (λ (names : List (List ℕ)). comes all names second) (new_added shown first new)
    ∙ ap (λ (t : Bool). t || is_next all (length (shown ++ first ∷ [])) second) (among_then shown first second)
    ∙ ap (λ (n : ℕ). (is_among second shown || bytes_eq first second) || is_next all n second) (one_longer shown first)

-- ---- the names that were shown are the first of all names

pub record IsFront (all shown : List (List ℕ)) : Type 0 where
  pub rest : List (List ℕ)
  pub is : all ≡ shown ++ rest

pub none_shown : (all : List (List ℕ)) → IsFront all []
none_shown all = record { rest = all; is = refl }

and_parts : (a b : Bool) → (a && b) ≡ true → (a ≡ true) × (b ≡ true)
and_parts true b e = (refl, e)
and_parts false b e = absurd cc

or_right : (a b : Bool) → (a || b) ≡ true → a ≡ false → b ≡ true
or_right true b e new = absurd cc
or_right false b e new = e

next_front : (shown rest : List (List ℕ)) (name : List ℕ) → length shown < length (shown ++ rest) → name_at (shown ++ rest) (length shown) ≡ name → IsFront (shown ++ rest) (shown ++ name ∷ [])
next_front [] [] name h e = absurd (omega (arith, h))
next_front [] (x ∷ rest) name h e = record { rest = rest; is = ap (λ (n : List ℕ). n ∷ rest) e }
next_front (x ∷ shown) rest name h e =
    let more = next_front shown rest name (omega (arith, h)) e in
    record { rest = more.rest; is = ap (λ (ns : List (List ℕ)). x ∷ ns) more.is }

ltb_is : (a b : ℕ) → ltb a b ≡ true → a < b
ltb_is a b h = grind (arith, nat_tests)

ltb_back : (a b : ℕ) → a < b → ltb a b ≡ true
ltb_back a b h = grind (arith, nat_tests)

next_is : (all shown : List (List ℕ)) (name : List ℕ) → IsFront all shown → is_next all (length shown) name ≡ true → IsFront all (shown ++ name ∷ [])
next_is all shown name f h =
    let parts = and_parts (ltb (length shown) (length all)) (bytes_eq (name_at all (length shown)) name) h in
    let inside : length shown < length (shown ++ f.rest) = subst (λ (ns : List (List ℕ)). length shown < length ns) f.is (ltb_is (length shown) (length all) parts.0) in
    let there : name_at (shown ++ f.rest) (length shown) ≡ name =
    ap (λ (ns : List (List ℕ)). name_at ns (length shown)) (sym f.is) ∙ (bytes_eq-Decides (name_at all (length shown)) name).0 parts.1 in
    subst (λ (ns : List (List ℕ)). IsFront ns (shown ++ name ∷ [])) (sym f.is) (next_front shown f.rest name inside there)

front_by : (all shown : List (List ℕ)) (name : List ℕ) (t : Bool) → is_among name shown ≡ t → IsFront all shown → comes all shown name ≡ true → IsFront all (with_name shown name)
front_by all shown name true old f h = subst (IsFront all) (sym (old_stays shown name old)) f
front_by all shown name false new f h =
    subst (IsFront all) (sym (new_added shown name new)) (next_is all shown name f (or_right (is_among name shown) (is_next all (length shown) name) h new))

-- a name that comes leaves the names that were shown in front
pub comes_front : (all shown : List (List ℕ)) (name : List ℕ) → IsFront all shown → comes all shown name ≡ true → IsFront all (with_name shown name)
comes_front all shown name f h = front_by all shown name (is_among name shown) refl f h

none_left : (shown rest : List (List ℕ)) → length (shown ++ rest) ≡ length shown → rest ≡ []
none_left shown [] e = refl
none_left shown (x ∷ rest) e = absurd (omega (arith, e, length-append shown (x ∷ rest)))

-- where as many were shown as there are, all were
pub all_shown : (all shown : List (List ℕ)) → IsFront all shown → length shown ≡ length all → all ≡ shown
all_shown all shown f e =
    let none : f.rest ≡ [] = none_left shown f.rest (sym (ap (λ (ns : List (List ℕ)). length ns) f.is) ∙ sym e) in
    f.is ∙ ap (λ (ns : List (List ℕ)). shown ++ ns) none ∙ append-nil shown

-- ---- and back

next_at : (shown more : List (List ℕ)) (name : List ℕ) → is_next (with_names (shown ++ name ∷ []) more) (length shown) name ≡ true
next_at shown more name =
    let all : List (List ℕ) = with_names (shown ++ name ∷ []) more in
    let grows = grows_all (shown ++ name ∷ []) more in
    let inside : length shown < length all = omega (arith, grows.longer, length-append shown (name ∷ [])) in
    let there : name_at all (length shown) ≡ name = grows.stays (length shown) (omega (arith, length-append shown (name ∷ []))) ∙ get_or_push shown name [] (length shown) refl in
    rw (ltb_back (length shown) (length all) inside, (bytes_eq-Decides (name_at all (length shown)) name).1 there) refl

back_by : (shown more : List (List ℕ)) (name : List ℕ) (t : Bool) → is_among name shown ≡ t → comes (with_names (with_name shown name) more) shown name ≡ true
back_by shown more name true old = rw old refl
back_by shown more name false new = rw (new_added shown name new, new) (next_at shown more name)

-- of all names, each where it first comes, the next that is shown comes
pub comes_back : (all shown more : List (List ℕ)) (name : List ℕ) → all ≡ with_names (with_name shown name) more → comes all shown name ≡ true
comes_back all shown more name e = ap (λ (ns : List (List ℕ)). comes ns shown name) e ∙ back_by shown more name (is_among name shown) refl

-- ---- a name of names that differ isn't among those before it

not_among : (done more : List (List ℕ)) (name : List ℕ) (t : Bool) → is_among name done ≡ t → Differ (done ++ name ∷ more) → is_among name done ≡ false
not_among done more name false new d = new
not_among done more name true old d =
    let here : place_in (done ++ name ∷ more) (name_at (done ++ name ∷ more) (length done)) ≡ length done = d (length done) (omega (arith, length-append done (name ∷ more))) in
    let name_is : name_at (done ++ name ∷ more) (length done) ≡ name = get_or-append_seam done name more [] in
    let inside : place_in done name < length done = ltb_is (place_in done name) (length done) (sym (among_is done name) ∙ old) in
    let stays : place_in (done ++ name ∷ more) name ≡ place_in done name = append_moves_none done (name ∷ more) name inside in
    absurd (omega (arith, here, ap (place_in (done ++ name ∷ more)) name_is, stays, inside))

pub first_own : (done more : List (List ℕ)) (name : List ℕ) → Differ (done ++ name ∷ more) → is_among name done ≡ false
first_own done more name d = not_among done more name (is_among name done) refl d
