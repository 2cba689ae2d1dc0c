-- A point is read exactly from its text, whatever follows.
use Rattle.std.proofs.Common.{◌≡◌, ℕ, zero, suc, ◌+◌, ◌*◌, ◌/◌, ◌%◌, ◌-◌, ◌^◌, ◌<◌, ◌≤◌, Bool, true, false, cond, eqb, ltb, not, List, [], ◌∷◌, ◌++◌, length, take, drop, replicate, Option, Some, None, refl, sym, ap, subst, ◌∙◌, append_assoc, arith, inl, inr, ◌⊎◌}
use Rattle.std.specs.Fmt.{decimal}
use Rattle.std.proofs.lemmas.Bool.{eqb-true, ltb-false, le-ltb}
use Rattle.std.proofs.lemmas.Bool.Decides.{nat_tests}
use Rattle.std.proofs.lemmas.List.{take_at, drop_at, take-append-drop, length-append, length-replicate, length-take}
use Rattle.std.proofs.lemmas.Fmt.{decimal_digit, length-decimal-le_wide}
use Rattle.std.proofs.lemmas.Nat.{div-mul-add, mod-mul-add}
use Rattle.std.proofs.Math.Nat.{div-le_self, div-add-mod, mod-lt, one-le-pow, le-div_iff_mul-le, div-mul-le_self}
use Rattle.texts.specs.Cuts.{before, behind, lacks}
use Rattle.texts.specs.Numbers.{value_from, number_of, zero_padded, point_text, ◌>>=◌, value_of_width, units_of, point_at, PointsAreExact}
use Rattle.texts.proofs.CutLaws.{before_at, behind_at, cut_back, lacks_append}
pub use Rattle.texts.proofs.NumberLaws.{bind_some}
use Rattle.texts.proofs.NumberLaws.{went, some_is, number_takes, number_again, value_again, value_of_one, value_lacks, decimal_lacks, value_below, from_one}

kept : {A : Type 0} (b : Bool) (x : Option A) (y : A) → cond b None x ≡ Some y → (b ≡ false) × (x ≡ Some y)
kept true x y e = absurd cc
kept false x y e = (refl, e)

-- ---- zeros in front

zeros_value : (k : ℕ) (ds : List ℕ) → value_from 0 (replicate k 48 ++ ds) ≡ value_from 0 ds
zeros_value zero ds = refl
zeros_value (suc k) ds = zeros_value k ds

length_padded : (width : ℕ) (ds : List ℕ) → length ds ≤ width → length (zero_padded width ds) ≡ width
length_padded width ds h = omega (arith, length-append (replicate (width - length ds) 48) ds, length-replicate {A = ℕ} (width - length ds) 48)

padded_again : (width n : ℕ) → n < 10 ^ 38 → value_from 0 (zero_padded width (decimal n)) ≡ Some n
padded_again width n small = zeros_value (width - length (decimal n)) (decimal n) ∙ value_again n small

one_zero : (width : ℕ) (ds : List ℕ) → length ds ≤ width → zero_padded (suc width) ds ≡ 48 ∷ zero_padded width ds
one_zero width ds h = let e : suc width - length ds ≡ suc (width - length ds) = omega arith in rw e refl

full_width : (ds : List ℕ) → zero_padded (length ds) ds ≡ ds
full_width ds = let e : length ds - length ds ≡ 0 = omega arith in rw e refl

first_cases : (c : ℕ) → 48 ≤ c → (c ≡ 48) ⊎ (48 < c)
first_cases c h = grind arith

abbrev Padded : List ℕ → ℕ → Type 0
Padded text n = (text ≡ zero_padded (length text) (decimal n)) × (length (decimal n) ≤ length text) × (n < 10 ^ 38)

padded_other : (cs : List ℕ) (c n : ℕ) → 48 < c → value_from 0 (c ∷ cs) ≡ Some n → Padded (c ∷ cs) n
padded_other cs c n low e =
    let t = from_one c cs n low e in
    let same : length (decimal n) ≡ length (c ∷ cs) = ap length (sym t.0) in
    (rw (sym same) (t.0 ∙ sym (full_width (decimal n))), omega (arith, same), t.1)

padded_alone : (c n : ℕ) → c ≡ 48 → value_from (c - 48) [] ≡ Some n → Padded (c ∷ []) n
padded_alone c n is e =
    let same : n ≡ 0 = sym (some_is (c - 48) n e) ∙ omega arith in
    let zero_text : decimal 0 ≡ 48 ∷ [] = decimal_digit 0 (omega arith) in
    rw (same, is, zero_text) (refl, omega arith, omega arith)

padded_zero : (d : ℕ) (cs : List ℕ) (c n : ℕ) → c ≡ 48 → Padded (d ∷ cs) n → Padded (c ∷ d ∷ cs) n
padded_zero d cs c n is t = (rw is (ap (λ (x : List ℕ). 48 ∷ x) t.0 ∙ sym (one_zero (length (d ∷ cs)) (decimal n) t.1)), omega (arith, t.1), t.2)

from_zero : (c : ℕ) (cs : List ℕ) (n : ℕ) → c ≡ 48 → value_from (c - 48) cs ≡ Some n → value_from 0 cs ≡ Some n
from_zero c cs n is e = let k : c - 48 ≡ 0 = omega arith in ap (λ (x : ℕ). value_from x cs) (sym k) ∙ e

padded_takes : (cs : List ℕ) (c n : ℕ) → value_from 0 (c ∷ cs) ≡ Some n → Padded (c ∷ cs) n
padded_takes [] c n e =
    let w = value_of_one c [] n e in
    elim (first_cases c w.0) [
      | inl is ↦ padded_alone c n is w.2
      | inr low ↦ padded_other [] c n low e
    ]
padded_takes (d ∷ cs) c n e =
    let w = value_of_one c (d ∷ cs) n e in
    elim (first_cases c w.0) [
      | inl is ↦ padded_zero d cs c n is (padded_takes cs d n (from_zero c (d ∷ cs) n is w.2))
      | inr low ↦ padded_other (d ∷ cs) c n low e
    ]

-- ---- a part of so many digits

part_takes : (width : ℕ) (text : List ℕ) (n : ℕ) → 0 < width → value_of_width width text ≡ Some n → (text ≡ zero_padded width (decimal n)) × (length text ≡ width) × (n < 10 ^ width)
part_takes width [] n pos e =
    let w = went (eqb (0) width) (value_from 0 []) n e in
    absurd (omega (arith, eqb-true 0 width w.0))
part_takes width (c ∷ cs) n pos e =
    let w = went (eqb (length (c ∷ cs)) width) (value_from 0 (c ∷ cs)) n e in
    let size : length (c ∷ cs) ≡ width = eqb-true (length (c ∷ cs)) width w.0 in
    let t = padded_takes cs c n w.1 in
    let below : n + 1 ≤ (0 + 1) * 10 ^ length (c ∷ cs) = value_below (c ∷ cs) 0 n w.1 in
    (t.0 ∙ ap (λ (k : ℕ). zero_padded k (decimal n)) size, size, subst (λ (k : ℕ). n < 10 ^ k) size (omega (arith, below)))

part_again : (width n : ℕ) → 0 < width → n < 10 ^ width → n < 10 ^ 38 → (value_of_width width (zero_padded width (decimal n)) ≡ Some n) × (length (zero_padded width (decimal n)) ≡ width)
part_again width n pos fits small =
    let size : length (zero_padded width (decimal n)) ≡ width = length_padded width (decimal n) (length-decimal-le_wide width n pos fits (omega arith)) in
    let test : eqb (length (zero_padded width (decimal n))) width ≡ true = rw size (grind arith) in
    (rw test (padded_again width n small), size)

-- ---- a point, and what follows

units_takes : (d whole part v : ℕ) → units_of d whole part ≡ Some v → (whole * 10 ^ d + part ≡ v) × (v ≤ 10 ^ 37)
units_takes d whole part v e =
    let a = kept (ltb (10 ^ 37 / 10 ^ d) whole) (cond (ltb (10 ^ 37) (whole * 10 ^ d + part)) None (Some (whole * 10 ^ d + part))) v e in
    let b = kept (ltb (10 ^ 37) (whole * 10 ^ d + part)) (Some (whole * 10 ^ d + part)) v a.1 in
    let same : whole * 10 ^ d + part ≡ v = some_is (whole * 10 ^ d + part) v b.1 in
    (same, subst (λ (k : ℕ). k ≤ 10 ^ 37) same (ltb-false (10 ^ 37) (whole * 10 ^ d + part) b.0))

point_from : (d whole part v : ℕ) (text rest tail : List ℕ) → part < 10 ^ d → whole * 10 ^ d + part ≡ v
    → text ≡ decimal whole ++ 46 ∷ rest → rest ≡ zero_padded d (decimal part) ++ tail → text ≡ point_text d v ++ tail
point_from d whole part v text rest tail fits same cut_is rest_is =
    let q : v / 10 ^ d ≡ whole = ap (λ (k : ℕ). k / 10 ^ d) (sym same) ∙ div-mul-add whole (10 ^ d) part fits in
    let r : v % 10 ^ d ≡ part = ap (λ (k : ℕ). k % 10 ^ d) (sym same) ∙ mod-mul-add whole (10 ^ d) part fits in
    rw (q, r) (cut_is ∙ ap (λ (t : List ℕ). decimal whole ++ 46 ∷ t) rest_is ∙ sym (append_assoc (decimal whole) (46 ∷ zero_padded d (decimal part)) tail))

point_is : (d v : ℕ) (text tail : List ℕ) (x : ℕ × List ℕ) → x ≡ (v, tail) → text ≡ point_text d x.0 ++ x.1 → x.0 ≤ 10 ^ 37 → (text ≡ point_text d v ++ tail) × (v ≤ 10 ^ 37)
point_is d v text tail x same made small = subst (λ (y : ℕ × List ℕ). (text ≡ point_text d y.0 ++ y.1) × (y.0 ≤ 10 ^ 37)) same (made, small)

pub point_takes : (d : ℕ) (text : List ℕ) (v : ℕ) (tail : List ℕ) → 0 < d → point_at d text ≡ Some (v, tail) → (text ≡ point_text d v ++ tail) × (v ≤ 10 ^ 37)
unfolding point_at
point_takes d text v tail pos e =
    let rest : List ℕ = behind 46 text in
    let a = bind_some (number_of (before 46 text)) (λ whole. value_of_width d (take d (behind 46 text)) >>= λ part. units_of d whole part >>= λ units. Some (units, drop d (behind 46 text))) (v, tail) e in
    let b = bind_some (value_of_width d (take d (behind 46 text))) (λ part. units_of d a.0 part >>= λ units. Some (units, drop d (behind 46 text))) (v, tail) a.2 in
    let c = bind_some (units_of d a.0 b.0) (λ units. Some (units, drop d (behind 46 text))) (v, tail) b.2 in
    let whole = number_takes (before 46 text) a.0 a.1 in
    let part = part_takes d (take d (behind 46 text)) b.0 pos b.1 in
    let units = units_takes d a.0 b.0 c.0 c.1 in
    let some : 0 < length (behind 46 text) = omega (arith, part.1, pos, length-take d (behind 46 text)) in
    let cut_is : text ≡ decimal a.0 ++ 46 ∷ behind 46 text = cut_back 46 text some ∙ ap (λ (t : List ℕ). t ++ 46 ∷ behind 46 text) whole.0 in
    let rest_is : behind 46 text ≡ zero_padded d (decimal b.0) ++ drop d (behind 46 text) = sym (take-append-drop d (behind 46 text)) ∙ ap (λ (t : List ℕ). t ++ drop d (behind 46 text)) part.0 in
    let made = point_from d a.0 b.0 c.0 text (behind 46 text) (drop d (behind 46 text)) part.2 units.0 cut_is rest_is in
    point_is d v text tail (c.0, drop d (behind 46 text)) (some_is (c.0, drop d (behind 46 text)) (v, tail) c.2) made units.1

units_again : (d v : ℕ) → v ≤ 10 ^ 37 → units_of d (v / 10 ^ d) (v % 10 ^ d) ≡ Some v
units_again d v small =
    let pos : 0 < 10 ^ d = one-le-pow d 10 (omega arith) in
    let back : v / 10 ^ d * 10 ^ d + v % 10 ^ d ≡ v = omega (arith, div-add-mod v (10 ^ d)) in
    let low : v / 10 ^ d ≤ 10 ^ 37 / 10 ^ d = (le-div_iff_mul-le pos).1 (omega (arith, div-mul-le_self v (10 ^ d))) in
    let first : ltb (10 ^ 37 / 10 ^ d) (v / 10 ^ d) ≡ false = le-ltb (10 ^ 37 / 10 ^ d) (v / 10 ^ d) low in
    rw (first, back, le-ltb (10 ^ 37) v small) refl

pub point_again : (d v : ℕ) (tail : List ℕ) → 0 < d → d ≤ 37 → v ≤ 10 ^ 37 → point_at d (point_text d v ++ tail) ≡ Some (v, tail)
unfolding point_at
point_again d v tail pos few small =
    let unit : 0 < 10 ^ d = one-le-pow d 10 (omega arith) in
    let whole : v / 10 ^ d < 10 ^ 38 = omega (arith, div-le_self v (10 ^ d)) in
    let part : v % 10 ^ d < 10 ^ d = mod-lt v unit in
    let p = part_again d (v % 10 ^ d) pos part (omega (arith, div-add-mod v (10 ^ d))) in
    let digits : List ℕ = zero_padded d (decimal (v % 10 ^ d)) in
    let regroup : point_text d v ++ tail ≡ decimal (v / 10 ^ d) ++ 46 ∷ (zero_padded d (decimal (v % 10 ^ d)) ++ tail) = append_assoc (decimal (v / 10 ^ d)) (46 ∷ zero_padded d (decimal (v % 10 ^ d))) tail in
    let no_dot : lacks 46 (decimal (v / 10 ^ d)) ≡ true = decimal_lacks 46 (v / 10 ^ d) (inl (omega arith)) whole in
    ap (point_at d) regroup ∙ rw (
      before_at 46 (decimal (v / 10 ^ d)) (zero_padded d (decimal (v % 10 ^ d)) ++ tail) no_dot,
      behind_at 46 (decimal (v / 10 ^ d)) (zero_padded d (decimal (v % 10 ^ d)) ++ tail) no_dot,
      number_again (v / 10 ^ d) whole,
      take_at (zero_padded d (decimal (v % 10 ^ d))) tail d p.1,
      p.0,
      units_again d v small,
      drop_at (zero_padded d (decimal (v % 10 ^ d))) tail d p.1,
    ) refl

-- ---- bytes that no point has

pub padded_lacks : (b width n : ℕ) → b < 48 ⊎ 57 < b → n < 10 ^ 38 → lacks b (zero_padded width (decimal n)) ≡ true
padded_lacks b width n h small = value_lacks b (zero_padded width (decimal n)) 0 n h (padded_again width n small)

pub point_lacks : (b d v : ℕ) → b < 46 ⊎ 57 < b → v ≤ 10 ^ 37 → lacks b (point_text d v) ≡ true
point_lacks b d v h small =
    let other : b < 48 ⊎ 57 < b = elim h [ inl low ↦ inl (omega (arith, low)) | inr high ↦ inr high ] in
    let dot : not (eqb 46 b) ≡ true = grind (arith, nat_tests) in
    let rest : lacks b (46 ∷ zero_padded d (decimal (v % 10 ^ d))) ≡ true = rw dot (padded_lacks b d (v % 10 ^ d) other (omega (arith, div-add-mod v (10 ^ d)))) in
    lacks_append b (decimal (v / 10 ^ d)) (46 ∷ zero_padded d (decimal (v % 10 ^ d))) (decimal_lacks b (v / 10 ^ d) other (omega (arith, div-le_self v (10 ^ d)))) rest

pub points_are_exact_lem : PointsAreExact
points_are_exact_lem = record {
  points = λ decimals text units rest pos few. (point_takes decimals text units rest pos, λ is. ap (point_at decimals) is.0 ∙ point_again decimals units rest pos few is.1);
  digits = point_lacks;
}
