-- A span is read exactly from its text.
use Rattle.std.proofs.Common.{◌≡◌, ◌≢◌, ℕ, ◌<◌, ◌≤◌, ◌^◌, ℤ, pos, negsuc, ◌≤ℤ◌, Bool, true, false, cond, eqb, ltb, ◌&&◌, not, List, [], ◌∷◌, ◌++◌, length, Option, Some, None, refl, sym, ap, subst, ◌∙◌, arith, ◌⊎◌}
use Rattle.std.specs.Prelude.{IfSome, IfNone}
use Rattle.std.proofs.lemmas.Int.{ints}
use Rattle.std.proofs.lemmas.Bool.{eqb-true}
use Rattle.std.proofs.lemmas.Bool.Decides.{nat_tests}
use Rattle.std.proofs.lemmas.List.{append-nil, nil_from_length}
use Rattle.history_model.specs.Game.{magnitude}
use Rattle.texts.specs.Cuts.{lacks}
use Rattle.texts.specs.Numbers.{point_text, point_at, ◌>>=◌}
use Rattle.texts.proofs.CutLaws.{both_true, lacks_append}
use Rattle.texts.proofs.NumberLaws.{went, some_is, bind_some}
use Rattle.texts.proofs.PointLaws.{point_takes, point_again, point_lacks}
use Rattle.fixed_span.specs.Span.{Ends}
use Rattle.fixed_span.specs.Texts.{IsDecimals, IsShown, ends_text, span_text, above, span_from, span_of, SpansAreExact}

-- the span of two ends, in the whole numbers that its text shows
abbrev IsSpan : ℕ → List ℕ → Ends → Type 0
IsSpan d text x = IsShown x × (text ≡ span_text d x)

above_takes : (lo : ℕ) (high : ℕ × List ℕ) (x : Ends) → above lo high ≡ Some x → (x ≡ record { lo = pos lo; hi = pos high.0 }) × (high.1 ≡ []) × (lo < high.0)
above_takes lo high x e =
    let w = went (eqb (length high.1) 0 && ltb lo high.0) (Some (record { lo = pos lo; hi = pos high.0 })) x e in
    let b = both_true (eqb (length high.1) 0) (ltb lo high.0) w.0 in
    (sym (some_is (record { lo = pos lo; hi = pos high.0 }) x w.1), nil_from_length high.1 (eqb-true (length high.1) 0 b.0), grind (arith, nat_tests))

point_span : (d lo : ℕ) (text : List ℕ) → text ≡ point_text d lo ++ [] → lo ≤ 10 ^ 37 → IsSpan d text (record { lo = pos lo; hi = pos lo })
point_span d lo text e small =
    let same : eqb lo lo ≡ true = grind arith in
    (record { low = omega (arith, ints); ordered = omega (arith, ints); high = omega (arith, ints) }, rw same (e ∙ append-nil (point_text d lo)))

wide_span : (d lo hi : ℕ) (text more : List ℕ) → text ≡ point_text d lo ++ (46 ∷ 46 ∷ more) → more ≡ point_text d hi → lo < hi → hi ≤ 10 ^ 37 → IsSpan d text (record { lo = pos lo; hi = pos hi })
wide_span d lo hi text more e rest lt small =
    let other : eqb lo hi ≡ false = grind (arith, nat_tests) in
    (record { low = omega (arith, ints); ordered = omega (arith, ints); high = omega (arith, ints) }, rw other (e ∙ ap (λ (t : List ℕ). point_text d lo ++ (46 ∷ 46 ∷ t)) rest))

from_takes : (d lo : ℕ) (text tail : List ℕ) (x : Ends) → 0 < d → text ≡ point_text d lo ++ tail → lo ≤ 10 ^ 37 → span_from d lo tail ≡ Some x → IsSpan d text x
from_takes d lo text [] x pos_d e small h = subst (λ (y : Ends). IsSpan d text y) (some_is (record { lo = pos lo; hi = pos lo }) x h) (point_span d lo text e small)
from_takes d lo text (b ∷ []) x pos_d e small h = absurd cc
from_takes d lo text (b ∷ c ∷ more) x pos_d e small h =
    let w = went (eqb b 46 && eqb c 46) (point_at d more >>= above lo) x h in
    let dots = both_true (eqb b 46) (eqb c 46) w.0 in
    let p = bind_some (point_at d more) (above lo) x w.1 in
    let t = point_takes d more p.0.0 p.0.1 pos_d p.1 in
    let o = above_takes lo p.0 x p.2 in
    let b_is : b ≡ 46 = eqb-true b 46 dots.0 in
    let c_is : c ≡ 46 = eqb-true c 46 dots.1 in
    let text_is : text ≡ point_text d lo ++ (46 ∷ 46 ∷ more) = e ∙ ap (λ (k : ℕ). point_text d lo ++ (k ∷ c ∷ more)) b_is ∙ ap (λ (k : ℕ). point_text d lo ++ (46 ∷ k ∷ more)) c_is in
    let more_is : more ≡ point_text d p.0.0 = t.0 ∙ ap (λ (r : List ℕ). point_text d p.0.0 ++ r) o.1 ∙ append-nil (point_text d p.0.0) in
    subst (λ (y : Ends). IsSpan d text y) (sym o.0) (wide_span d lo p.0.0 text more text_is more_is o.2 t.1)

span_takes : (d : ℕ) (text : List ℕ) (x : Ends) → 0 < d → span_of d text ≡ Some x → IsSpan d text x
unfolding span_of
span_takes d text x pos_d e =
    let a = bind_some (point_at d text) (λ low. span_from d low.0 low.1) x e in
    let t = point_takes d text a.0.0 a.0.1 pos_d a.1 in
    from_takes d a.0.0 text a.0.1 x pos_d t.0 t.1 a.2

by_test : (d lo hi : ℕ) (t : Bool) → t ≡ eqb lo hi → 0 < d → d ≤ 37 → lo ≤ hi → hi ≤ 10 ^ 37
    → span_of d (cond t (point_text d lo) (point_text d lo ++ (46 ∷ 46 ∷ point_text d hi))) ≡ Some (record { lo = pos lo; hi = pos hi })
unfolding span_of
by_test d lo hi true e pos_d few order small =
    let same : lo ≡ hi = eqb-true lo hi (sym e) in
    let again : point_at d (point_text d lo) ≡ Some (lo, []) = ap (point_at d) (sym (append-nil (point_text d lo))) ∙ point_again d lo [] pos_d few (omega arith) in
    rw again (ap (λ (k : ℕ). Some (record { lo = pos lo; hi = pos k })) same)
by_test d lo hi false e pos_d few order small =
    let low = point_again d lo (46 ∷ 46 ∷ point_text d hi) pos_d few (omega arith) in
    let high : point_at d (point_text d hi) ≡ Some (hi, []) = ap (point_at d) (sym (append-nil (point_text d hi))) ∙ point_again d hi [] pos_d few small in
    let less : ltb lo hi ≡ true = grind (arith, nat_tests) in
    rw (low, high, less) refl

decimals_small : (d : ℕ) → IsDecimals d → (0 < d) × (d ≤ 37)
decimals_small d h = grind arith

pub span_again : (d : ℕ) (span : Ends) → IsDecimals d → IsShown span → span_of d (span_text d span) ≡ Some span
span_again d span decimals shown = ends_again span.lo span.hi shown.low shown.ordered shown.high
  where
    ends_again : (lo hi : ℤ) → pos 0 ≤ℤ lo → lo ≤ℤ hi → hi ≤ℤ pos (10 ^ 37) → span_of d (span_text d (record { lo = lo; hi = hi })) ≡ Some (record { lo = lo; hi = hi })
    ends_again (pos a) (pos b) l m h = let p = decimals_small d decimals in by_test d a b (eqb a b) refl p.0 p.1 (omega (arith, ints)) (omega (arith, ints))
    ends_again (pos a) (negsuc b) l m h = absurd (omega (arith, ints))
    ends_again (negsuc a) hi l m h = absurd (omega (arith, ints))

not_some : {A : Type 0} (r : Option A) (x : A) → r ≡ None → r ≡ Some x → ⊥
not_some None x n e = absurd cc
not_some (Some y) x n e = absurd cc

pub span_found : (d : ℕ) (text : List ℕ) (r : Option Ends) → IsDecimals d → r ≡ span_of d text → IfSome r (λ span. IsShown span × (text ≡ span_text d span))
span_found d text None h e = tt
span_found d text (Some x) h e = span_takes d text x (decimals_small d h).0 (sym e)

pub span_none : (d : ℕ) (text : List ℕ) (r : Option Ends) → IsDecimals d → r ≡ span_of d text → IfNone r ((span : Ends) → IsShown span → text ≢ span_text d span)
span_none d text None h e = λ span shown is. not_some (span_of d text) span (sym e) (ap (span_of d) is ∙ span_again d span h shown)
span_none d text (Some x) h e = tt

-- ---- bytes that no span has

lacks_cond : (b : ℕ) (t : Bool) (xs ys : List ℕ) → lacks b xs ≡ true → lacks b ys ≡ true → lacks b (cond t xs ys) ≡ true
lacks_cond b true xs ys h k = h
lacks_cond b false xs ys h k = k

ends_lack : (b d lo hi : ℕ) → b < 46 ⊎ 57 < b → lo ≤ 10 ^ 37 → hi ≤ 10 ^ 37 → lacks b (ends_text d lo hi) ≡ true
ends_lack b d lo hi h low high =
    let dot : not (eqb 46 b) ≡ true = grind (arith, nat_tests) in
    let rest : lacks b (46 ∷ 46 ∷ point_text d hi) ≡ true = rw dot (point_lacks b d hi h high) in
    lacks_cond b (eqb lo hi) (point_text d lo) (point_text d lo ++ (46 ∷ 46 ∷ point_text d hi)) (point_lacks b d lo h low) (lacks_append b (point_text d lo) (46 ∷ 46 ∷ point_text d hi) (point_lacks b d lo h low) rest)

magnitude-le : (x : ℤ) (m : ℕ) → pos 0 ≤ℤ x → x ≤ℤ pos m → magnitude x ≤ m
magnitude-le (pos n) m h k = omega (arith, ints)
magnitude-le (negsuc n) m h k = absurd (omega (arith, ints, h))

span_lacks : (b d : ℕ) (span : Ends) → b < 46 ⊎ 57 < b → IsShown span → lacks b (span_text d span) ≡ true
span_lacks b d span h shown =
    let low : span.lo ≤ℤ pos (10 ^ 37) = omega (arith, ints, shown.ordered, shown.high) in
    let positive : pos 0 ≤ℤ span.hi = omega (arith, ints, shown.low, shown.ordered) in
    ends_lack b d (magnitude span.lo) (magnitude span.hi) h (magnitude-le span.lo (10 ^ 37) shown.low low) (magnitude-le span.hi (10 ^ 37) positive shown.high)

pub spans_are_exact_lem : SpansAreExact
spans_are_exact_lem = record {
  spans = λ d text span decimals. (span_takes d text span (decimals_small d decimals).0, λ is. ap (span_of d) is.1 ∙ span_again d span decimals is.0);
  digits = span_lacks;
}
