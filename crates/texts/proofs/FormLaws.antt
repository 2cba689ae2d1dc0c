-- Fields that are joined by `|` are read from their text.
use Rattle.std.proofs.Common.{◌≡◌, Bool, ◌∷◌, Some, refl, ap}
use Rattle.texts.specs.Forms.{Form, IsField, AreFields, ◌and◌, shaped, only}
use Rattle.texts.proofs.CutLaws.{both_true, before_at, behind_at, lacks_append}

pub last : {A : Type 0} (f : Form A) → IsField f → AreFields f
last f h = record { again = h.again; one_line = h.one_line }

pub both : {A B : Type 0} (f : Form A) (g : Form B) → IsField f → AreFields g → AreFields (f and g)
both f g hf hg = record {
  again = λ x h.
      let p = both_true (f.is_in x.0) (g.is_in x.1) h in
      let bar = hf.one_field x.0 p.0 in
      rw (before_at 124 (f.text x.0) (g.text x.1) bar, behind_at 124 (f.text x.0) (g.text x.1) bar, hf.again x.0 p.0, hg.again x.1 p.1) refl;
  one_line = λ x h.
      let p = both_true (f.is_in x.0) (g.is_in x.1) h in
      lacks_append 10 (f.text x.0) (124 ∷ g.text x.1) (hf.one_line x.0 p.0) (hg.one_line x.1 p.1);
}

pub reshaped : {A B : Type 0} (parts : B → A) (made : A → B) (f : Form A) → ((y : B) → made (parts y) ≡ y) → AreFields f → AreFields (shaped parts made f)
reshaped parts made f back h = record {
  again = λ y e. rw (h.again (parts y) e) (ap (λ z. Some z) (back y));
  one_line = λ y e. h.one_line (parts y) e;
}

pub field_reshaped : {A B : Type 0} (parts : B → A) (made : A → B) (f : Form A) → ((y : B) → made (parts y) ≡ y) → IsField f → IsField (shaped parts made f)
field_reshaped parts made f back h = record {
  again = λ y e. rw (h.again (parts y) e) (ap (λ z. Some z) (back y));
  one_field = λ y e. h.one_field (parts y) e;
  one_line = λ y e. h.one_line (parts y) e;
}

pub only_those : {A : Type 0} (test : A → Bool) (f : Form A) → AreFields f → AreFields (only test f)
only_those test f h = record {
  again = λ x e. let p = both_true (f.is_in x) (test x) e in rw (h.again x p.0, p.1) refl;
  one_line = λ x e. h.one_line x (both_true (f.is_in x) (test x) e).0;
}
