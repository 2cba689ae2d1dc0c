-- Fields are read only from their own texts, and never from none.
use Rattle.std.proofs.Common.{◌≡◌, ℕ, ◌^◌, ◌<◌, Bool, cond, ltb, List, [], ◌∷◌, ◌++◌, length, Option, Some, None, refl, sym, ap, ◌∙◌, arith}
use Rattle.texts.specs.Cuts.{before, behind}
use Rattle.texts.specs.Forms.{Form, ◌and◌, shaped, only}
use Rattle.texts.specs.Numbers.{◌>>=◌, number_of, small}
use Rattle.texts.proofs.CutLaws.{cut_back}
use Rattle.texts.proofs.NumberLaws.{bind_some, some_is, went}
use Rattle.history_model.specs.Name.{is_name}
use Rattle.rota_rows.specs.Fields.{a_count, a_name, are_plays, count_of, is_count, name_of, plays_of, some_plays}
use Rattle.rota_rows.specs.Lines.{are_few, row_form_with, tally_form}
use Rattle.rota_rows.proofs.FieldLaws.{Below, ltb_is}
use Rattle.checkpoint.specs.Marks.{any_mark, any_number_of}
use Rattle.checkpoint.proofs.MarkLaws.{any_takes, no_number}

pub record IsSpelled {A : Type 0} (f : Form A) : Type 0 where
  pub takes : (t : List ℕ) (x : A) → f.read t ≡ Some x → t ≡ f.text x
  pub some : f.read [] ≡ None

-- ---- forms of forms

no_some : {A : Type 0} (r : Option A) (x : A) → r ≡ None → r ≡ Some x → ⊥
no_some None x n e = absurd cc
no_some (Some y) x n e = absurd cc

pub some_text : {A : Type 0} (f : Form A) → IsSpelled f → (t : List ℕ) (x : A) → f.read t ≡ Some x → 0 < length t
some_text f h [] x e = absurd (no_some (f.read []) x h.some e)
some_text f h (c ∷ cs) x e = omega arith

pub both : {A B : Type 0} (f : Form A) (g : Form B) → IsSpelled f → IsSpelled g → IsSpelled (f and g)
both {A = A} {B = B} f g hf hg = record {
  takes = λ t x e.
      let a = bind_some (f.read (before 124 t)) (λ a. g.read (behind 124 t) >>= λ b. Some (a, b)) x e in
      let b = bind_some (g.read (behind 124 t)) (λ b. Some (a.0, b)) x a.2 in
      let parts : t ≡ before 124 t ++ 124 ∷ behind 124 t = cut_back 124 t (some_text g hg (behind 124 t) b.0 b.1) in
      let front : before 124 t ≡ f.text a.0 = hf.takes (before 124 t) a.0 a.1 in
      let rest : behind 124 t ≡ g.text b.0 = hg.takes (behind 124 t) b.0 b.1 in
      let is : (a.0, b.0) ≡ x = some_is (a.0, b.0) x b.2 in
      parts ∙ ap (λ (u : List ℕ). u ++ 124 ∷ behind 124 t) front ∙ ap (λ (u : List ℕ). f.text a.0 ++ 124 ∷ u) rest ∙ ap (λ (y : A × B). f.text y.0 ++ 124 ∷ g.text y.1) is;
  some = rw hf.some refl;
}

pub reshaped : {A B : Type 0} (parts : B → A) (made : A → B) (f : Form A) → ((x : A) → parts (made x) ≡ x) → IsSpelled f → IsSpelled (shaped parts made f)
reshaped {A = A} {B = B} parts made f back h = record {
  takes = λ t y e.
      let a = bind_some (f.read t) (λ x. Some (made x)) y e in
      let is : parts y ≡ a.0 = ap parts (sym (some_is (made a.0) y a.2)) ∙ back a.0 in
      h.takes t a.0 a.1 ∙ ap f.text (sym is);
  some = rw h.some refl;
}

pub only_those : {A : Type 0} (test : A → Bool) (f : Form A) → IsSpelled f → IsSpelled (only test f)
only_those test f h = record {
  takes = λ t y e.
      let a = bind_some (f.read t) (λ x. cond (test x) (Some x) None) y e in
      let w = went (test a.0) (Some a.0) y a.2 in
      h.takes t a.0 a.1 ∙ ap f.text (some_is a.0 y w.1);
  some = rw h.some refl;
}

-- ---- fields

no_small : small [] ≡ None
unfolding small number_of
no_small = refl

count_takes : Below → (t : List ℕ) (n : ℕ) → count_of t ≡ Some n → t ≡ a_count.text n
unfolding count_of
count_takes l t n e =
    let a = bind_some (small t) (λ n. cond (is_count n) (Some n) None) n e in
    let w = went (is_count a.0) (Some a.0) n a.2 in
    ((l.numbers.small_numbers t a.0).0 a.1).0 ∙ ap a_count.text (some_is a.0 n w.1)

no_count : count_of [] ≡ None
unfolding count_of
no_count = rw no_small refl

plays_takes : Below → (t : List ℕ) (n : ℕ) → plays_of t ≡ Some n → t ≡ some_plays.text n
unfolding plays_of
plays_takes l t n e =
    let a = bind_some (small t) (λ n. cond (are_plays n) (Some n) None) n e in
    let w = went (are_plays a.0) (Some a.0) n a.2 in
    ((l.numbers.small_numbers t a.0).0 a.1).0 ∙ ap some_plays.text (some_is a.0 n w.1)

no_plays : plays_of [] ≡ None
unfolding plays_of
no_plays = rw no_small refl

count_spelled : Below → IsSpelled a_count
count_spelled l = record { takes = count_takes l; some = no_count }

plays_spelled : Below → IsSpelled some_plays
plays_spelled l = record { takes = plays_takes l; some = no_plays }

name_takes : (t x : List ℕ) → name_of t ≡ Some x → t ≡ x
name_takes t x e = some_is t x (went (is_name t) (Some t) x e).1

name_spelled : IsSpelled a_name
name_spelled = record { takes = name_takes; some = refl }

pub tally_spelled : Below → IsSpelled tally_form
tally_spelled l =
    let plays = plays_spelled l in
    only_those are_few _ (reshaped _ _ _ (λ x. refl) (both _ _ plays (both _ _ plays (both _ _ plays plays))))

-- marks that an automaton can have
abbrev pub small_mark : Form ℕ
small_mark = only (λ n. ltb n (2 ^ 32)) any_mark

small_takes : Below → (t : List ℕ) (n : ℕ) → small_mark.read t ≡ Some n → t ≡ small_mark.text n
small_takes l t n e =
    let a = bind_some (any_number_of t) (λ n. cond (ltb n (2 ^ 32)) (Some n) None) n e in
    let w = went (ltb a.0 (2 ^ 32)) (Some a.0) n a.2 in
    any_takes l t a.0 a.1 (ltb_is a.0 (2 ^ 32) w.0) ∙ ap small_mark.text (some_is a.0 n w.1)

mark_spelled : Below → IsSpelled small_mark
mark_spelled l = record { takes = small_takes l; some = rw no_number refl }

pub row_spelled : Below → IsSpelled (row_form_with small_mark)
row_spelled l =
    let count = count_spelled l in
    let mark = mark_spelled l in
    reshaped _ _ _ (λ x. refl) (both _ _ count (both _ _ name_spelled (both _ _ name_spelled (both _ _ mark (both _ _ mark (tally_spelled l))))))
