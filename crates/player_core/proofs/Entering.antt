-- What a sheet plays on a bench that fits.
use Rattle.std.proofs.Common.{◌≡◌, ◌≢◌, ℕ, zero, suc, ◌<◌, ◌≤◌, ◌+◌, ◌-◌, Bool, true, false, cond, Decides, List, [], ◌∷◌, length, drop, refl, sym, ◌∙◌, ap, arith}
use Rattle.std.specs.Str.{bytes_eq}
use Rattle.std.proofs.lemmas.Slice.Eq.{bytes_eq-Decides}
use Rattle.std.proofs.lemmas.List.{get_or-drop, length-drop}
use Rattle.history_model.specs.Automaton.{Automaton}
use Rattle.player_core.specs.declared.kind.Kind.{Kind}
use Rattle.player_core.specs.declared.kind.Kind.TheVariants.{MemoryOne, Machine, Lookup, Plug}
use Rattle.player_core.specs.State.{Lasting, nobody, lasting_at}
use Rattle.player_core.specs.Sheet.{SheetData}
use Rattle.player_core.specs.AutomatonOf.{automaton_by, automaton_of}
use Rattle.player_core.specs.Fits.{SidesFit, HaveKinds, NamesDiffer, IsPlaceOf, first_plug}
use Rattle.player_core.specs.Entry.{automaton_named, plug_automaton, entry_automaton}
use Rattle.player_core.specs.Bench.{KeepsPlugs}
use Rattle.player_core.specs.Laws.{EntriesPlay}
use Rattle.player_core.proofs.Fitting.{plug_behind}
use Rattle.player_core.proofs.Keeping.{plug_kept}

cond_yes : {X P : Type 0} (b : Bool) (x y : X) → Decides b P → P → cond b x y ≡ x
cond_yes true x y d p = refl
cond_yes false x y d p = ap (λ c. cond c x y) (d.1 p)

cond_no : {X P : Type 0} (b : Bool) (x y : X) → Decides b P → ¬ P → cond b x y ≡ y
cond_no true x y d n = absurd (n (d.0 refl))
cond_no false x y d n = refl

-- the first of a name is at k
named_at : (players : List Lasting) (k : ℕ) (name : List ℕ) → k < length players → (lasting_at players k).name ≡ name → ((j : ℕ) → j < k → (lasting_at players j).name ≢ name) → automaton_named players name ≡ (lasting_at players k).automaton
named_at [] k name h e before = absurd (omega (arith, h))
named_at (p ∷ ps) zero name h e before = cond_yes (bytes_eq p.name name) p.automaton (automaton_named ps name) (bytes_eq-Decides p.name name) e
named_at (p ∷ ps) (suc k) name h e before =
    cond_no (bytes_eq p.name name) p.automaton (automaton_named ps name) (bytes_eq-Decides p.name name) (before 0 (omega arith))
    ∙ named_at ps k name (omega (arith, h)) e (λ j lt. before (suc j) (omega (arith, lt)))

-- two lists of the same names and automata
pub record AreLike (old new : List Lasting) : Type 0 where
  pub length_is : length new ≡ length old
  pub names : (k : ℕ) → k < length old → (lasting_at new k).name ≡ (lasting_at old k).name
  pub automata : (k : ℕ) → k < length old → (lasting_at new k).automaton ≡ (lasting_at old k).automaton

tail_like : (p q : Lasting) (ps qs : List Lasting) → AreLike (p ∷ ps) (q ∷ qs) → AreLike ps qs
tail_like p q ps qs h = record {
  length_is = omega (arith, h.length_is);
  names = λ k lt. h.names (suc k) (omega (arith, lt));
  automata = λ k lt. h.automata (suc k) (omega (arith, lt));
}

named_like : (old new : List Lasting) (name : List ℕ) → AreLike old new → automaton_named new name ≡ automaton_named old name
named_like [] [] name h = refl
named_like [] (q ∷ qs) name h = absurd (omega (arith, h.length_is))
named_like (p ∷ ps) [] name h = absurd (omega (arith, h.length_is))
named_like (p ∷ ps) (q ∷ qs) name h =
    let e : q.name ≡ p.name = h.names 0 (omega arith) in
    let a : q.automaton ≡ p.automaton = h.automata 0 (omega arith) in
    let rest : automaton_named qs name ≡ automaton_named ps name = named_like ps qs name (tail_like p q ps qs h) in
    ap (λ n. cond (bytes_eq n name) q.automaton (automaton_named qs name)) e ∙ ap (λ x. cond (bytes_eq p.name name) x (automaton_named qs name)) a ∙ ap (λ x. cond (bytes_eq p.name name) p.automaton x) rest

dropped : (players : List Lasting) (n k : ℕ) → lasting_at (drop n players) k ≡ lasting_at players (n + k)
dropped players n k = get_or-drop n players k nobody

plugs_like : (old new : List Lasting) → KeepsPlugs old new → HaveKinds old → AreLike (drop first_plug old) (drop first_plug new)
plugs_like old new h kinds =
    let behind : (k : ℕ) → k < length (drop first_plug old) → first_plug + k < length old =
    λ k lt. omega (arith, lt, length-drop first_plug old) in
    record {
      length_is = omega (arith, length-drop first_plug old, length-drop first_plug new, h.length_is);
      names = λ k lt.
          ap (λ p. p.name) (dropped new first_plug k) ∙ (h.places (first_plug + k) (behind k lt)).name ∙ sym (ap (λ p. p.name) (dropped old first_plug k));
      automata = λ k lt.
          ap (λ p. p.automaton) (dropped new first_plug k) ∙ plug_kept old new h kinds (first_plug + k) (omega arith) (behind k lt) ∙ sym (ap (λ p. p.automaton) (dropped old first_plug k));
    }

kept : (left right left_now : List Lasting) (sheet : SheetData) → SidesFit left right → KeepsPlugs left left_now → entry_automaton left_now sheet ≡ entry_automaton left sheet
kept left right left_now sheet fits h =
    ap (automaton_of sheet) (named_like (drop first_plug left) (drop first_plug left_now) sheet.plug (plugs_like left left_now h fits.shape.left_kinds))

plug_at : (players : List Lasting) (k : ℕ) (name : List ℕ) → NamesDiffer players → first_plug ≤ k → k < length players → (lasting_at players k).name ≡ name → plug_automaton players name ≡ (lasting_at players k).automaton
plug_at players k name differ low h e =
    let i : ℕ = k - first_plug in
    let place : first_plug + i ≡ k = omega (arith, low) in
    let here : lasting_at (drop first_plug players) i ≡ lasting_at players k =
    dropped players first_plug i ∙ ap (lasting_at players) place in
    let others : (j : ℕ) → j < i → (lasting_at (drop first_plug players) j).name ≢ name =
    λ j lt same. differ (first_plug + j) k (omega arith) (omega (arith, lt, low)) h (sym (ap (λ p. p.name) (dropped players first_plug j)) ∙ same ∙ sym e) in
    named_at (drop first_plug players) i name (omega (arith, h, low, length-drop first_plug players)) (ap (λ p. p.name) here ∙ e) others
    ∙ ap (λ p. p.automaton) here

-- an automaton that a sheet of a kind gives is the same for any own one, but for a plug
by_kind : (kind : Kind) (sheet : SheetData) (own other : Automaton) → (kind ≡ Plug → own ≡ other) → automaton_by kind sheet own ≡ automaton_by kind sheet other
by_kind MemoryOne sheet own other same = refl
by_kind Machine sheet own other same = refl
by_kind Lookup sheet own other same = refl
by_kind Plug sheet own other same = same refl

on_left : (left right : List Lasting) (sheet : SheetData) (k : ℕ) → SidesFit left right → IsPlaceOf left right sheet k → automaton_of sheet (lasting_at left k).automaton ≡ entry_automaton left sheet
on_left left right sheet k fits p =
    by_kind sheet.kind sheet _ _ (λ plug.
    sym (plug_at left k sheet.plug fits.shape.left_names (plug_behind k (sym (fits.shape.left_kinds k p.left_inside) ∙ p.left_takes.kind ∙ plug)) p.left_inside (p.left_takes.name plug)))

on_right : (left right : List Lasting) (sheet : SheetData) (k : ℕ) → SidesFit left right → IsPlaceOf left right sheet k → automaton_of sheet (lasting_at right k).automaton ≡ entry_automaton left sheet
on_right left right sheet k fits p =
    by_kind sheet.kind sheet _ _ (λ plug.
    let low : first_plug ≤ k = plug_behind k (sym (fits.shape.left_kinds k p.left_inside) ∙ p.left_takes.kind ∙ plug) in
    sym (fits.twins k low p.left_inside).automaton ∙ sym (plug_at left k sheet.plug fits.shape.left_names low p.left_inside (p.left_takes.name plug)))

pub entries_play : EntriesPlay
entries_play = record { kept = kept; left = on_left; right = on_right }
