-- Entries of different names.
use Rattle.std.proofs.Common.{◌≡◌, ◌≢◌, ℕ, zero, suc, ◌+◌, ◌<◌, Bool, true, false, List, [], ◌∷◌, ◌++◌, length, get_or, Some, None, refl, sym, ◌∙◌, ap, inl, inr, arith}
use Rattle.std.proofs.lemmas.Bool.{cases_Bool, cases_order}
use Rattle.std.proofs.lemmas.List.{get_or_push, get_or_append_left, length-append}
use Rattle.std.proofs.lemmas.Iterator.Adapters.{position_from-zero}
use Rattle.std.proofs.lemmas.Slice.Eq.{bytes_eq-Decides}
use Rattle.std.specs.List.{position_from}
use Rattle.std.specs.Str.{bytes_eq}
use Rattle.lab_file.specs.declared.lab.Entry.{Entry}
use Rattle.lab_file.specs.Lab.{NamesDiffer, entry_at, no_entry}
use Rattle.lab_file.specs.LabOf.{place_of}

-- where no place is found, the test passes nowhere
none_from : {X : Type 0} (test : X → Bool) (i : ℕ) (xs : List X) (k : ℕ) (d : X) → position_from test i xs ≡ None → k < length xs → test (get_or xs k d) ≡ false
none_from test i [] k d none inside = absurd (omega arith)
none_from test i (x ∷ xs) zero d none inside =
    elim (cases_Bool (test x)) [
      | inl on ↦ let found : Some i ≡ None = rw on at none in absurd (cc)
      | inr off ↦ off
    ]
none_from test i (x ∷ xs) (suc k) d none inside =
    elim (cases_Bool (test x)) [
      | inl on ↦ let found : Some i ≡ None = rw on at none in absurd (cc)
      | inr off ↦ none_from test (i + 1) xs k d (rw off at none) (omega arith)
    ]

-- a name that no entry has
pub not_named : (name : List ℕ) (entries : List Entry) (k : ℕ) → place_of name entries ≡ None → k < length entries → (entry_at entries k).name ≢ name
not_named name entries k none inside same =
    let test : Entry → Bool = λ entry. bytes_eq name entry.name in
    let off : test (entry_at entries k) ≡ false = none_from test 0 entries k no_entry (sym (position_from-zero test entries) ∙ none) inside in
    let on : test (entry_at entries k) ≡ true = (bytes_eq-Decides name (entry_at entries k).name).1 (sym same) in
    cc

-- one entry more, whose name is new
names_push : (entries : List Entry) (entry : Entry) → NamesDiffer entries → place_of entry.name entries ≡ None → NamesDiffer (entries ++ entry ∷ [])
names_push entries entry differ new j k below inside same =
    let here : get_or (entries ++ entry ∷ []) j no_entry ≡ get_or entries j no_entry = get_or_append_left entries (entry ∷ []) no_entry j (omega (arith, length-append entries (entry ∷ []), inside, below)) in
    let count : length (entries ++ entry ∷ []) ≡ length entries + 1 = rw (length-append) refl in
    elim (cases_order k (length entries)) [
      | inl last ↦
          let there : get_or (entries ++ entry ∷ []) k no_entry ≡ entry = get_or_push entries entry no_entry k (sym last) in
          not_named entry.name entries j new (omega arith) (sym (ap (λ (e : Entry). e.name) here) ∙ same ∙ ap (λ (e : Entry). e.name) there)
      | inr (inl before) ↦
          let there : get_or (entries ++ entry ∷ []) k no_entry ≡ get_or entries k no_entry = get_or_append_left entries (entry ∷ []) no_entry k before in
          differ j k below before (sym (ap (λ (e : Entry). e.name) here) ∙ same ∙ ap (λ (e : Entry). e.name) there)
      | inr (inr behind) ↦ absurd (omega arith)
    ]

-- the same on the lists that the code holds
pub names_pushed : (entries seen pushed : List Entry) (entry : Entry) → seen ≡ entries → pushed ≡ entries ++ entry ∷ [] → NamesDiffer entries → place_of entry.name seen ≡ None → NamesDiffer pushed
names_pushed entries seen pushed entry same is differ new = rw is (names_push entries entry differ (rw same at new))
