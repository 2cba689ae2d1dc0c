-- Where a match stands by its first line: as the code reads it, what it is read from, and back.
use Rattle.std.proofs.Common.{◌≡◌, ℕ, ◌^◌, ◌<◌, ◌≤◌, Bool, true, false, cond, eqb, ltb, List, ◌∷◌, ◌++◌, length, Option, Some, None, Result, Ok, Err, IfOk, codes, refl, sym, ap, subst, ◌∙◌, arith}
use Rattle.std.specs.Prelude.{option_map}
use Rattle.std.specs.Str.{bytes_eq}
use Rattle.std.proofs.lemmas.Bool.{eqb-true}
use Rattle.std.proofs.lemmas.Slice.Eq.{bytes_eq-Decides}
use Rattle.history_model.specs.declared.tally.Tally.{Tally}
use Rattle.history_model.specs.Tally.{total}
use Rattle.texts.specs.Cuts.{before, behind, lacks}
use Rattle.texts.specs.Forms.{Form, AreFields, ◌and◌, shaped}
use Rattle.texts.specs.Numbers.{◌>>=◌}
use Rattle.texts.proofs.CutLaws.{cut_back}
use Rattle.texts.proofs.NumberLaws.{bind_some, some_is, went}
use Rattle.rota_rows.specs.declared.row.RotaRow.{RotaRow}
use Rattle.rota_rows.specs.declared.lines.ShownRow.{ShownRow}
use Rattle.rota_rows.specs.Fields.{count_of, name_of, some_plays}
use Rattle.rota_rows.specs.Lines.{are_few, row_form, row_form_with, tally_form}
use Rattle.rota_rows.proofs.FieldLaws.{Below, both_true, leb_is, ltb_is}
use Rattle.rota_rows.proofs.InRange.{ltb_back, tally_back}
use Rattle.rota_rows.proofs.LineLaws.{row_exact_with}
use Rattle.checkpoint.specs.declared.expected.ExpectedMatch.{ExpectedMatch}
use Rattle.checkpoint.specs.declared.fault.Fault.{Fault}
use Rattle.checkpoint.specs.declared.fault.Fault.TheVariants as faults
use Rattle.checkpoint.specs.Checkpoints.{has_marks, has_names, placed, row_at, row_by, row_in, row_in_with}
use Rattle.checkpoint.specs.Exact.{IsExpected, IsRowFor}
use Rattle.checkpoint.specs.Marks.{any_mark, any_number_of, capped, capped_mark, capped_number_of}
use Rattle.checkpoint.specs.Steps.{checked}
use Rattle.checkpoint.specs.Steps as steps
use Rattle.checkpoint.specs.Texts.{row_line, shown_row}
use Rattle.checkpoint.proofs.MarkLaws.{any_field, capped_small, capped_test}
use Rattle.checkpoint.proofs.Spelled.{row_spelled, small_mark, some_text}

-- ---- the fields of the line, read or not

abbrev pair_of : {A B : Type 0} → Option A → Option B → Option (A × B)
pair_of r s = r >>= λ a. s >>= λ b. Some (a, b)

abbrev made : ℕ × (List ℕ × (List ℕ × (ℕ × (ℕ × Tally)))) → ShownRow
made p = record { number = p.0; left = p.1.0; right = p.1.1.0; left_mark = p.1.1.1.0; right_mark = p.1.1.1.1.0; tally = p.1.1.1.1.1 }

-- what six fields make
abbrev row_parts : Option ℕ → Option (List ℕ) → Option (List ℕ) → Option ℕ → Option ℕ → Option Tally → Option ShownRow
row_parts number left right left_mark right_mark tally =
    pair_of number (pair_of left (pair_of right (pair_of left_mark (pair_of right_mark tally)))) >>= λ p. Some (made p)

no_row : (x : ShownRow) → None ≡ Some x → ⊥
no_row x e = absurd cc

abbrev capped_row : ShownRow → ShownRow
capped_row x = record x { left_mark = capped x.left_mark; right_mark = capped x.right_mark }

capped_parts : (n : Option ℕ) (l r : Option (List ℕ)) (lm rm : Option ℕ) (t : Option Tally)
    → row_parts n l r (option_map capped lm) (option_map capped rm) t ≡ option_map capped_row (row_parts n l r lm rm t)
capped_parts None l r lm rm t = refl
capped_parts (Some n) None r lm rm t = refl
capped_parts (Some n) (Some l) None lm rm t = refl
capped_parts (Some n) (Some l) (Some r) None rm t = refl
capped_parts (Some n) (Some l) (Some r) (Some lm) None t = refl
capped_parts (Some n) (Some l) (Some r) (Some lm) (Some rm) None = refl
capped_parts (Some n) (Some l) (Some r) (Some lm) (Some rm) (Some t) = refl

parts_tally : (n : Option ℕ) (l r : Option (List ℕ)) (lm rm : Option ℕ) (t : Option Tally) (x : ShownRow) → row_parts n l r lm rm t ≡ Some x → t ≡ Some x.tally
parts_tally None l r lm rm t x e = absurd (no_row x e)
parts_tally (Some n) None r lm rm t x e = absurd (no_row x e)
parts_tally (Some n) (Some l) None lm rm t x e = absurd (no_row x e)
parts_tally (Some n) (Some l) (Some r) None rm t x e = absurd (no_row x e)
parts_tally (Some n) (Some l) (Some r) (Some lm) None t x e = absurd (no_row x e)
parts_tally (Some n) (Some l) (Some r) (Some lm) (Some rm) None x e = absurd (no_row x e)
parts_tally (Some n) (Some l) (Some r) (Some lm) (Some rm) (Some t) x e = ap (λ (y : ShownRow). Some y.tally) (some_is _ x e)

abbrev kept : Option ℕ → Option ℕ
kept mark = mark >>= λ n. cond (ltb n (2 ^ 32)) (Some n) None

kept_parts : (n : Option ℕ) (l r : Option (List ℕ)) (lm rm : Option ℕ) (t : Option Tally) (x : ShownRow) → row_parts n l r lm rm t ≡ Some x
    → ltb x.left_mark (2 ^ 32) ≡ true → ltb x.right_mark (2 ^ 32) ≡ true → row_parts n l r (kept lm) (kept rm) t ≡ Some x
kept_parts None l r lm rm t x e _ _ = absurd (no_row x e)
kept_parts (Some n) None r lm rm t x e _ _ = absurd (no_row x e)
kept_parts (Some n) (Some l) None lm rm t x e _ _ = absurd (no_row x e)
kept_parts (Some n) (Some l) (Some r) None rm t x e _ _ = absurd (no_row x e)
kept_parts (Some n) (Some l) (Some r) (Some lm) None t x e _ _ = absurd (no_row x e)
kept_parts (Some n) (Some l) (Some r) (Some lm) (Some rm) None x e _ _ = absurd (no_row x e)
kept_parts (Some n) (Some l) (Some r) (Some lm) (Some rm) (Some t) x e hl hr =
    let is = some_is _ x e in
    let left : ltb lm (2 ^ 32) ≡ true = ap (λ (y : ShownRow). ltb y.left_mark (2 ^ 32)) is ∙ hl in
    let right : ltb rm (2 ^ 32) ≡ true = ap (λ (y : ShownRow). ltb y.right_mark (2 ^ 32)) is ∙ hr in
    rw (left, right) e

-- ---- the line as the code reads it

fields_capped : (t : List ℕ) → (row_form_with capped_mark).read t ≡ option_map capped_row ((row_form_with any_mark).read t)
unfolding capped_number_of
fields_capped t =
    let t1 : List ℕ = behind 124 t in
    let t2 : List ℕ = behind 124 t1 in
    let t3 : List ℕ = behind 124 t2 in
    let t4 : List ℕ = behind 124 t3 in
    capped_parts (count_of (before 124 t)) (name_of (before 124 t1)) (name_of (before 124 t2)) (any_number_of (before 124 t3)) (any_number_of (before 124 t4)) (tally_form.read (behind 124 t4))

cond_map : (b : Bool) (x y : Option ShownRow) → x ≡ option_map capped_row y → cond b x None ≡ option_map capped_row (cond b y None)
cond_map true x y h = h
cond_map false x y h = refl

row_in_capped : (line : List ℕ) → row_in_with capped_mark line ≡ option_map capped_row (row_in line)
row_in_capped line = cond_map (bytes_eq (before 124 line) (codes "row")) _ _ (fields_capped (behind 124 line))

-- ---- tests in order

-- a test, and what comes where it holds
abbrev pub gated : {A : Type 0} → Bool → Result A Fault → Fault → Result A Fault
gated t r fault = cond t r (Err fault)

pub went_on : {A B : Type 0} (fault : Fault) (t : Bool) (x : A) (f : A → Result B Fault) → steps.◌>>=◌ (checked fault t x) f ≡ gated t (f x) fault
went_on fault true x f = refl
went_on fault false x f = refl

abbrev row_tests : ExpectedMatch → ℕ → ℕ → ShownRow → Result RotaRow Fault
row_tests pair m k x = gated (eqb x.number m) (gated (has_names pair x) (gated (has_marks pair x) (Ok (placed pair x)) (faults.BadMark k)) (faults.WrongPair k)) (faults.BadLine k)

row_by_some : (pair : ExpectedMatch) (m k : ℕ) (x : ShownRow) → row_by pair m k (Some x) ≡ row_tests pair m k x
row_by_some pair m k x =
    let f3 : ShownRow → Result RotaRow Fault = λ y. Ok (placed pair y) in
    let f2 : ShownRow → Result RotaRow Fault = λ y. steps.◌>>=◌ (checked (faults.BadMark k) (has_marks pair y) y) f3 in
    let f1 : ShownRow → Result RotaRow Fault = λ y. steps.◌>>=◌ (checked (faults.WrongPair k) (has_names pair y) y) f2 in
    went_on (faults.BadLine k) (eqb x.number m) x f1
    ∙ ap (λ (r : Result RotaRow Fault). gated (eqb x.number m) r (faults.BadLine k))
    (went_on (faults.WrongPair k) (has_names pair x) x f2
    ∙ ap (λ (r : Result RotaRow Fault). gated (has_names pair x) r (faults.WrongPair k)) (went_on (faults.BadMark k) (has_marks pair x) x f3))

same_if : {A : Type 0} (t : Bool) (a b e : A) → (t ≡ true → a ≡ b) → cond t a e ≡ cond t b e
same_if true a b e h = h refl
same_if false a b e h = refl

abbrev few_rows : ExpectedMatch → Type 0
few_rows pair = (pair.left_rows ≤ 4294967295) × (pair.right_rows ≤ 4294967295)

marks_capped : (pair : ExpectedMatch) (x : ShownRow) → few_rows pair → has_marks pair (capped_row x) ≡ has_marks pair x
marks_capped pair x h = rw (capped_test x.left_mark pair.left_rows h.0, capped_test x.right_mark pair.right_rows h.1) refl

placed_capped : (pair : ExpectedMatch) (x : ShownRow) → few_rows pair → has_marks pair x ≡ true → placed pair (capped_row x) ≡ placed pair x
placed_capped pair x h e =
    let marks = both_true (ltb x.left_mark pair.left_rows) (ltb x.right_mark pair.right_rows) e in
    let left : capped x.left_mark ≡ x.left_mark = capped_small x.left_mark (omega (arith, ltb_is _ _ marks.0, h.0)) in
    let right : capped x.right_mark ≡ x.right_mark = capped_small x.right_mark (omega (arith, ltb_is _ _ marks.1, h.1)) in
    rw (left, right) refl

tests_capped : (pair : ExpectedMatch) (m k : ℕ) (x : ShownRow) → few_rows pair → row_tests pair m k (capped_row x) ≡ row_tests pair m k x
tests_capped pair m k x h =
    let bad : Result RotaRow Fault = Err (faults.BadMark k) in
    let marks : cond (has_marks pair (capped_row x)) (Ok (placed pair (capped_row x))) bad ≡ cond (has_marks pair x) (Ok (placed pair x)) bad =
    ap (λ (t : Bool). cond t (Ok (placed pair (capped_row x))) bad) (marks_capped pair x h)
    ∙ same_if (has_marks pair x) _ _ bad (λ e. ap (λ (row : RotaRow). Ok row) (placed_capped pair x h e)) in
    ap (λ (r : Result RotaRow Fault). gated (eqb x.number m) (gated (has_names pair x) r (faults.WrongPair k)) (faults.BadLine k)) marks

by_capped : (pair : ExpectedMatch) (m k : ℕ) (shown : Option ShownRow) → few_rows pair → row_by pair m k (option_map capped_row shown) ≡ row_by pair m k shown
by_capped pair m k None h = refl
by_capped pair m k (Some x) h = row_by_some pair m k (capped_row x) ∙ tests_capped pair m k x h ∙ sym (row_by_some pair m k x)

-- what the code reads is where the match stands
pub row_capped : (pair : ExpectedMatch) (m k : ℕ) (line : List ℕ) → pair.left_rows ≤ 4294967295 → pair.right_rows ≤ 4294967295
    → row_by pair m k (row_in_with capped_mark line) ≡ row_at pair m k line
row_capped pair m k line left right = ap (row_by pair m k) (row_in_capped line) ∙ by_capped pair m k (row_in line) (left, right)

-- ---- what a row was read from

pub ok_gated : {A : Type 0} (t : Bool) (r : Result A Fault) (fault : Fault) (y : A) → gated t r fault ≡ Ok y → (t ≡ true) × (r ≡ Ok y)
ok_gated true r fault y e = (refl, e)
ok_gated false r fault y e = absurd cc

abbrev pub given : {A : Type 0} → A → Result A Fault
given x = Ok x

pub ok_is : {A : Type 0} (x y : A) → given x ≡ given y → x ≡ y
ok_is x y e = cc

record RowTaken (pair : ExpectedMatch) (m : ℕ) (line : List ℕ) (row : RotaRow) : Type 0 where
  x : ShownRow
  shown : row_in line ≡ Some x
  number : x.number ≡ m
  names : has_names pair x ≡ true
  marks : has_marks pair x ≡ true
  is : placed pair x ≡ row

by_taken : (pair : ExpectedMatch) (m k : ℕ) (line : List ℕ) (row : RotaRow) (shown : Option ShownRow) → row_in line ≡ shown → row_by pair m k shown ≡ Ok row → RowTaken pair m line row
by_taken pair m k line row None s e = absurd cc
by_taken pair m k line row (Some x) s e =
    let a = ok_gated (eqb x.number m) _ (faults.BadLine k) row (sym (row_by_some pair m k x) ∙ e) in
    let b = ok_gated (has_names pair x) _ (faults.WrongPair k) row a.1 in
    let c = ok_gated (has_marks pair x) _ (faults.BadMark k) row b.1 in
    record { x = x; shown = s; number = eqb-true x.number m a.0; names = b.0; marks = c.0; is = ok_is (placed pair x) row c.1 }

row_taken : (pair : ExpectedMatch) (m k : ℕ) (line : List ℕ) (row : RotaRow) → row_at pair m k line ≡ Ok row → RowTaken pair m line row
row_taken pair m k line row e = by_taken pair m k line row (row_in line) refl e

abbrev plain_tally : Form Tally
plain_tally = shaped (λ x. (x.cc, (x.cd, (x.dc, x.dd)))) (λ p. record { cc = p.0; cd = p.1.0; dc = p.1.1.0; dd = p.1.1.1 }) (some_plays and some_plays and some_plays and some_plays)

tally_few : (t : List ℕ) (tally : Tally) → tally_form.read t ≡ Some tally → total tally ≤ 10 ^ 12
tally_few t tally e =
    let a = bind_some (plain_tally.read t) (λ x. cond (are_few x) (Some x) None) tally e in
    let w = went (are_few a.0) (Some a.0) tally a.2 in
    leb_is (total tally) (10 ^ 12) (ap are_few (sym (some_is a.0 tally w.1)) ∙ w.0)

fields_few : (t : List ℕ) (x : ShownRow) → (row_form_with any_mark).read t ≡ Some x → total x.tally ≤ 10 ^ 12
fields_few t x e =
    let t1 : List ℕ = behind 124 t in
    let t2 : List ℕ = behind 124 t1 in
    let t3 : List ℕ = behind 124 t2 in
    let t4 : List ℕ = behind 124 t3 in
    let tally = parts_tally (count_of (before 124 t)) (name_of (before 124 t1)) (name_of (before 124 t2)) (any_number_of (before 124 t3)) (any_number_of (before 124 t4)) (tally_form.read (behind 124 t4)) x e in
    tally_few (behind 124 t4) x.tally tally

pub row_range : (pair : ExpectedMatch) (m k : ℕ) (line : List ℕ) (row : RotaRow) → row_at pair m k line ≡ Ok row → IsRowFor pair row
row_range pair m k line row e =
    let v = row_taken pair m k line row e in
    let marks = both_true (ltb v.x.left_mark pair.left_rows) (ltb v.x.right_mark pair.right_rows) v.marks in
    let fields = went (bytes_eq (before 124 line) (codes "row")) ((row_form_with any_mark).read (behind 124 line)) v.x v.shown in
    subst (IsRowFor pair) v.is (record {
      left = refl;
      right = refl;
      left_mark = ltb_is v.x.left_mark pair.left_rows marks.0;
      right_mark = ltb_is v.x.right_mark pair.right_rows marks.1;
      few_turns = fields_few (behind 124 line) v.x fields.1;
    })

fields_spelled : Below → (t : List ℕ) (x : ShownRow) → (row_form_with any_mark).read t ≡ Some x → x.left_mark < 2 ^ 32 → x.right_mark < 2 ^ 32
    → (t ≡ row_form.text x) × (0 < length t)
fields_spelled l t x e left right =
    let t1 : List ℕ = behind 124 t in
    let t2 : List ℕ = behind 124 t1 in
    let t3 : List ℕ = behind 124 t2 in
    let t4 : List ℕ = behind 124 t3 in
    let small : (row_form_with small_mark).read t ≡ Some x =
    kept_parts (count_of (before 124 t)) (name_of (before 124 t1)) (name_of (before 124 t2)) (any_number_of (before 124 t3)) (any_number_of (before 124 t4)) (tally_form.read (behind 124 t4)) x e
    (ltb_back x.left_mark (2 ^ 32) left) (ltb_back x.right_mark (2 ^ 32) right) in
    let s = row_spelled l in
    (s.takes t x small, some_text (row_form_with small_mark) s t x small)

line_spelled : Below → (line : List ℕ) (x : ShownRow) → row_in line ≡ Some x → x.left_mark < 2 ^ 32 → x.right_mark < 2 ^ 32 → line ≡ codes "row|" ++ row_form.text x
line_spelled l line x e left right =
    let w = went (bytes_eq (before 124 line) (codes "row")) ((row_form_with any_mark).read (behind 124 line)) x e in
    let fields = fields_spelled l (behind 124 line) x w.1 left right in
    let word : before 124 line ≡ codes "row" = (bytes_eq-Decides (before 124 line) (codes "row")).0 w.0 in
    cut_back 124 line fields.1 ∙ ap (λ (t : List ℕ). t ++ 124 ∷ behind 124 line) word ∙ ap (λ (t : List ℕ). codes "row|" ++ t) fields.0

shown_is : (pair : ExpectedMatch) (m : ℕ) (x : ShownRow) → x.number ≡ m → has_names pair x ≡ true → x ≡ shown_row pair m (placed pair x)
shown_is pair m x number names =
    let n = both_true (bytes_eq x.left pair.left_name) (bytes_eq x.right pair.right_name) names in
    let left : x.left ≡ pair.left_name = (bytes_eq-Decides x.left pair.left_name).0 n.0 in
    let right : x.right ≡ pair.right_name = (bytes_eq-Decides x.right pair.right_name).0 n.1 in
    rw (← number, ← left, ← right) refl

pub row_spelled_back : Below → (pair : ExpectedMatch) (m k : ℕ) (line : List ℕ) (row : RotaRow) → IsExpected pair → row_at pair m k line ≡ Ok row → line ≡ row_line pair m row
row_spelled_back l pair m k line row is e =
    let v = row_taken pair m k line row e in
    let marks = both_true (ltb v.x.left_mark pair.left_rows) (ltb v.x.right_mark pair.right_rows) v.marks in
    let text = line_spelled l line v.x v.shown (omega (arith, ltb_is _ _ marks.0, is.left_rows)) (omega (arith, ltb_is _ _ marks.1, is.right_rows)) in
    text ∙ ap (λ (y : ShownRow). codes "row|" ++ row_form.text y) (shown_is pair m v.x v.number v.names) ∙ ap (row_line pair m) v.is

-- ---- and back

itself : (t : List ℕ) → bytes_eq t t ≡ true
itself t = (bytes_eq-Decides t t).1 refl

shown_in : (pair : ExpectedMatch) (m : ℕ) (row : RotaRow) → m < 2 ^ 32 → IsExpected pair → IsRowFor pair row → (row_form_with any_mark).is_in (shown_row pair m row) ≡ true
shown_in pair m row small is v =
    rw (ltb_back m (2 ^ 32) small, is.left_name, is.right_name, ltb_back row.left_mark (2 ^ 32) (omega (arith, v.left_mark, is.left_rows)), ltb_back row.right_mark (2 ^ 32) (omega (arith, v.right_mark, is.right_rows)), tally_back row.tally v.few_turns)
    refl

exact : Below → AreFields (row_form_with any_mark)
exact l = row_exact_with l any_mark (any_field l)

pub row_lacks : Below → (pair : ExpectedMatch) (m : ℕ) (row : RotaRow) → m < 2 ^ 32 → IsExpected pair → IsRowFor pair row → lacks 10 (row_line pair m row) ≡ true
row_lacks l pair m row small is v = (exact l).one_line (shown_row pair m row) (shown_in pair m row small is v)

same_number : (m : ℕ) → eqb m m ≡ true
same_number m = grind arith

placed_back : (pair : ExpectedMatch) (m : ℕ) (row : RotaRow) → IsRowFor pair row → placed pair (shown_row pair m row) ≡ row
placed_back pair m row v = rw (← v.left, ← v.right) refl

tests_back : (pair : ExpectedMatch) (m k : ℕ) (row : RotaRow) → IsRowFor pair row → row_tests pair m k (shown_row pair m row) ≡ Ok row
tests_back pair m k row v =
    rw (same_number m, itself pair.left_name, itself pair.right_name, ltb_back row.left_mark pair.left_rows v.left_mark, ltb_back row.right_mark pair.right_rows v.right_mark)
    (ap (λ (r : RotaRow). Ok r) (placed_back pair m row v))

pub row_again : Below → (pair : ExpectedMatch) (m k : ℕ) (row : RotaRow) → m < 2 ^ 32 → IsExpected pair → IsRowFor pair row → row_at pair m k (row_line pair m row) ≡ Ok row
row_again l pair m k row small is v =
    let shown : row_in (row_line pair m row) ≡ Some (shown_row pair m row) = (exact l).again (shown_row pair m row) (shown_in pair m row small is v) in
    ap (row_by pair m k) shown ∙ row_by_some pair m k (shown_row pair m row) ∙ tests_back pair m k row v

-- ---- ranges, as a call answers them

pub in_range : (pair : ExpectedMatch) (m k : ℕ) (line : List ℕ) (r : Result RotaRow Fault) → r ≡ row_at pair m k line → IfOk r (IsRowFor pair)
in_range pair m k line (Ok row) is = row_range pair m k line row (sym is)
in_range pair m k line (Err fault) is = tt
