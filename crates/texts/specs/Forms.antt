-- Forms of texts: how the values of a type are written and read, and fields that are joined by `|`.
use Rattle.std.specs.Prelude.{◌≡◌, ℕ, ◌&&◌, Bool, true, List, ◌∷◌, ◌++◌, Option, Some, None, if◌then◌else◌}
use Rattle.texts.specs.Cuts.{before, behind, lacks}
use Rattle.texts.specs.Numbers.{◌>>=◌}

-- how a value is written, what a text is read as, and which values are in range
pub record Form (A : Type 0) : Type 0 where
  pub text : A → List ℕ
  pub read : List ℕ → Option A
  pub is_in : A → Bool

-- a field: what is in range is read from its text, in which no `|` and no LF stands
pub record IsField {A : Type 0} (f : Form A) : Type 0 where
  pub again : (x : A) → f.is_in x ≡ true → f.read (f.text x) ≡ Some x
  pub one_field : (x : A) → f.is_in x ≡ true → lacks 124 (f.text x) ≡ true
  pub one_line : (x : A) → f.is_in x ≡ true → lacks 10 (f.text x) ≡ true

-- fields: what is in range is read from its text, in which no LF stands
pub record AreFields {A : Type 0} (f : Form A) : Type 0 where
  pub again : (x : A) → f.is_in x ≡ true → f.read (f.text x) ≡ Some x
  pub one_line : (x : A) → f.is_in x ≡ true → lacks 10 (f.text x) ≡ true

-- a field, a `|`, and the fields behind it
infixr 10 ◌and◌
abbrev pub ◌and◌ : {A B : Type 0} → Form A → Form B → Form (A × B)
f and g = record {
  text = λ x. f.text x.0 ++ 124 ∷ g.text x.1;
  read = λ t. f.read (before 124 t) >>= λ a. g.read (behind 124 t) >>= λ b. Some (a, b);
  is_in = λ x. f.is_in x.0 && g.is_in x.1;
}

-- the same texts for other values
abbrev pub shaped : {A B : Type 0} → (B → A) → (A → B) → Form A → Form B
shaped parts made f = record { text = λ y. f.text (parts y); read = λ t. f.read t >>= λ x. Some (made x); is_in = λ y. f.is_in (parts y) }

-- values of which a test holds
abbrev pub only : {A : Type 0} → (A → Bool) → Form A → Form A
only test f = record { text = f.text; read = λ t. f.read t >>= λ x. if test x then Some x else None; is_in = λ x. f.is_in x && test x }
