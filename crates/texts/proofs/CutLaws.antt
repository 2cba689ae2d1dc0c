-- What stands before a byte and behind it.
use Rattle.std.proofs.Common.{◌≡◌, ℕ, ◌<◌, Bool, true, false, cond, eqb, ◌&&◌, not, List, [], ◌∷◌, ◌++◌, length, refl, sym, ap, arith}
use Rattle.std.proofs.lemmas.Bool.{eqb-true}
use Rattle.texts.specs.Cuts.{before, behind, lacks}

pub both_true : (a b : Bool) → (a && b) ≡ true → (a ≡ true) × (b ≡ true)
both_true true b e = (refl, e)
both_true false b e = absurd cc

not_true : (a : Bool) → not a ≡ true → a ≡ false
not_true true e = absurd cc
not_true false e = refl

pub before_at : (b : ℕ) (xs ys : List ℕ) → lacks b xs ≡ true → before b (xs ++ b ∷ ys) ≡ xs
before_at b [] ys h = let e : eqb b b ≡ true = grind arith in rw e refl
before_at b (x ∷ xs) ys h =
    let p = both_true (not (eqb x b)) (lacks b xs) h in
    rw (not_true (eqb x b) p.0) (ap (λ (t : List ℕ). x ∷ t) (before_at b xs ys p.1))

pub behind_at : (b : ℕ) (xs ys : List ℕ) → lacks b xs ≡ true → behind b (xs ++ b ∷ ys) ≡ ys
behind_at b [] ys h = let e : eqb b b ≡ true = grind arith in rw e refl
behind_at b (x ∷ xs) ys h =
    let p = both_true (not (eqb x b)) (lacks b xs) h in
    rw (not_true (eqb x b) p.0) (behind_at b xs ys p.1)

pub before_all : (b : ℕ) (xs : List ℕ) → lacks b xs ≡ true → before b xs ≡ xs
before_all b [] h = refl
before_all b (x ∷ xs) h =
    let p = both_true (not (eqb x b)) (lacks b xs) h in
    rw (not_true (eqb x b) p.0) (ap (λ (t : List ℕ). x ∷ t) (before_all b xs p.1))

pub behind_all : (b : ℕ) (xs : List ℕ) → lacks b xs ≡ true → behind b xs ≡ []
behind_all b [] h = refl
behind_all b (x ∷ xs) h =
    let p = both_true (not (eqb x b)) (lacks b xs) h in
    rw (not_true (eqb x b) p.0) (behind_all b xs p.1)

back_step : (b x : ℕ) (xs : List ℕ) (t : Bool) → t ≡ eqb x b → (0 < length (behind b xs) → xs ≡ before b xs ++ b ∷ behind b xs)
    → 0 < length (cond t xs (behind b xs)) → (x ∷ xs) ≡ cond t [] (x ∷ before b xs) ++ b ∷ cond t xs (behind b xs)
back_step b x xs true e more h = ap (λ (y : ℕ). y ∷ xs) (eqb-true x b (sym e))
back_step b x xs false e more h = ap (λ (t : List ℕ). x ∷ t) (more h)

pub cut_back : (b : ℕ) (xs : List ℕ) → 0 < length (behind b xs) → xs ≡ before b xs ++ b ∷ behind b xs
cut_back b [] h = absurd (omega arith)
cut_back b (x ∷ xs) h = back_step b x xs (eqb x b) refl (cut_back b xs) h

pub lacks_append : (b : ℕ) (xs ys : List ℕ) → lacks b xs ≡ true → lacks b ys ≡ true → lacks b (xs ++ ys) ≡ true
lacks_append b [] ys h k = k
lacks_append b (x ∷ xs) ys h k =
    let p = both_true (not (eqb x b)) (lacks b xs) h in
    rw (p.0, lacks_append b xs ys p.1 k) refl
