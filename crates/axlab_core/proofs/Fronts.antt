-- Names that are asked for, one after the other.
use Rattle.std.proofs.Common.{◌≡◌, ℕ, zero, suc, List, [], ◌∷◌, ◌++◌, take, refl, sym, ◌∙◌, ap}
use Rattle.std.proofs.lemmas.List.{append_assoc}
use Rattle.axlab_core.specs.Files.{AskedFront}

take_more : (n : ℕ) (xs ys : List (List ℕ)) → (m : ℕ) × (take n xs ≡ take m (xs ++ ys))
take_more zero xs ys = (0, refl)
take_more (suc n) [] ys = (0, refl)
take_more (suc n) (x ∷ xs) ys = let rest = take_more n xs ys in (suc rest.0, ap (λ zs. x ∷ zs) rest.1)

take_behind : (n : ℕ) (xs ys : List (List ℕ)) → (m : ℕ) × (xs ++ take n ys ≡ take m (xs ++ ys))
take_behind n [] ys = (n, refl)
take_behind n (x ∷ xs) ys = let rest = take_behind n xs ys in (suc rest.0, ap (λ zs. x ∷ zs) rest.1)

whole : (xs : List (List ℕ)) → (m : ℕ) × (xs ≡ take m xs)
whole [] = (0, refl)
whole (x ∷ xs) = let rest = whole xs in (suc rest.0, ap (λ zs. x ∷ zs) rest.1)

pub append_none : (xs : List (List ℕ)) → xs ++ [] ≡ xs
append_none [] = refl
append_none (x ∷ xs) = ap (λ zs. x ∷ zs) (append_none xs)

-- none was asked for
pub front_none : (names before now : List (List ℕ)) → now ≡ before → AskedFront names before now
front_none names before now same = (0, same ∙ sym (append_none before))

-- more could have been
pub front_more : (names more before now : List (List ℕ)) → AskedFront names before now → AskedFront (names ++ more) before now
front_more names more before now front =
    let m = take_more front.0 names more in
    (m.0, front.1 ∙ ap (λ zs. before ++ zs) m.1)

-- all were
pub front_all : (names before now : List (List ℕ)) → now ≡ before ++ names → AskedFront names before now
front_all names before now all = let m = whole names in (m.0, all ∙ ap (λ zs. before ++ zs) m.1)

-- some, and then some of the others
pub front_then : (first names before mid now : List (List ℕ)) → mid ≡ before ++ first → AskedFront names mid now → AskedFront (first ++ names) before now
front_then first names before mid now all front =
    let m = take_behind front.0 first names in
    (m.0, front.1 ∙ ap (λ zs. zs ++ take front.0 names) all ∙ append_assoc before first (take front.0 names) ∙ ap (λ zs. before ++ zs) m.1)

pub asked_then : (first second before mid now : List (List ℕ)) → mid ≡ before ++ first → now ≡ mid ++ second → now ≡ before ++ (first ++ second)
asked_then first second before mid now one two = two ∙ ap (λ zs. zs ++ second) one ∙ append_assoc before first second
