-- A bench that fits.
use Rattle.std.proofs.Common.{◌≡◌, ◌≢◌, inl, inr, refl, ℕ, zero, suc, ◌<◌, ◌≤◌, List, length, sym, ◌∙◌, ap, arith}
use Rattle.std.proofs.lemmas.List.{get_or_past}
use Rattle.std.proofs.lemmas.Bool.{cases_order}
use Rattle.player_core.specs.declared.kind.Kind.{Kind}
use Rattle.player_core.specs.declared.kind.Kind.TheVariants.{MemoryOne, Machine, Lookup, Plug}
use Rattle.player_core.specs.State.{Lasting, lasting_at}
use Rattle.player_core.specs.Sheet.{SheetData, Takes}
use Rattle.player_core.specs.Laws.{OnePlaceTakes}
use Rattle.player_core.specs.Fits.{SidesFit, HaveKinds, NamesDiffer, NoPlugNamed, fixed_kinds, kind_of_place, first_plug}

-- a player of a sheet's kind takes it, where the kind is no plug
takes_kind : (left : List Lasting) (sheet : SheetData) (k : ℕ) → HaveKinds left → k < length left → kind_of_place k ≡ sheet.kind → sheet.kind ≢ Plug → Takes (lasting_at left k) sheet
takes_kind left sheet k kinds h e other = record { kind = kinds k h ∙ e; name = λ p. absurd (other p) }

-- the place of each kind: its own, and for plugs the first behind them
abbrev place_of_kind : Kind → ℕ
place_of_kind MemoryOne = 0
place_of_kind Machine = 1
place_of_kind Lookup = 2
place_of_kind Plug = 3

-- the kind of a sheet that no player takes
kind_left : (left : List Lasting) (sheet : SheetData) (kind : Kind) → HaveKinds left → first_plug ≤ length left → sheet.kind ≡ kind → ((j : ℕ) → j < length left → ¬ Takes (lasting_at left j) sheet) → kind ≡ Plug
kind_left left sheet Plug kinds some e none = refl
kind_left left sheet kind kinds some e none =
    let inside : place_of_kind kind < length left = omega (arith, some) in
    absurd (none (place_of_kind kind) inside (takes_kind left sheet (place_of_kind kind) kinds inside (sym e) (λ p. cc)))

pub plug_of_place : (k : ℕ) → first_plug ≤ k → kind_of_place k ≡ Plug
plug_of_place k low = get_or_past fixed_kinds k Plug low

-- a sheet that no player takes is a plug that no player is named as
pub none_takes : (left right : List Lasting) (sheet : SheetData) (k : ℕ) → SidesFit left right → length left ≤ k → ((j : ℕ) → j < k → ¬ Takes (lasting_at left j) sheet) → NoPlugNamed left sheet
none_takes left right sheet k fits whole none =
    let inside : (j : ℕ) → j < length left → ¬ Takes (lasting_at left j) sheet = λ j h. none j (omega (arith, h, whole)) in
    let plug : sheet.kind ≡ Plug =
    kind_left left sheet sheet.kind fits.shape.left_kinds fits.shape.lengths.some refl inside in
    record {
      plug = plug;
      none = λ j low h e. inside j h (record { kind = fits.shape.left_kinds j h ∙ plug_of_place j low ∙ sym plug; name = λ p. e });
    }

-- a place whose kind is no plug is the place of its kind
own_place : (k : ℕ) → k < first_plug → place_of_kind (kind_of_place k) ≡ k
own_place zero h = refl
own_place (suc zero) h = refl
own_place (suc (suc zero)) h = refl
own_place (suc (suc (suc k))) h = absurd (omega (arith, h))

place_of_plug : (k : ℕ) → kind_of_place k ≡ Plug → k < first_plug → first_plug ≡ k
place_of_plug k e h = sym (ap place_of_kind e) ∙ own_place k h

-- the place of a plug is behind the fixed kinds
pub plug_behind : (k : ℕ) → kind_of_place k ≡ Plug → first_plug ≤ k
plug_behind k e = elim (cases_order k first_plug) as (λ _. first_plug ≤ k) [
  | inl same ↦ omega (arith, same)
  | inr (inl below) ↦ absurd (omega (arith, below, place_of_plug k e below))
  | inr (inr above) ↦ omega (arith, above)
]

-- a place whose kind is no plug is one of the first
is_first : (k : ℕ) → kind_of_place k ≢ Plug → k < first_plug
is_first k other = elim (cases_order k first_plug) as (λ _. k < first_plug) [
  | inl same ↦ absurd (other (plug_of_place k (omega (arith, same))))
  | inr (inl below) ↦ below
  | inr (inr above) ↦ absurd (other (plug_of_place k (omega (arith, above))))
]

-- two places of one kind that is no plug are one
same_place : (j k : ℕ) → kind_of_place j ≡ kind_of_place k → kind_of_place k ≢ Plug → j ≡ k
same_place j k e other =
    sym (own_place j (is_first j (λ plug. other (sym e ∙ plug)))) ∙ ap place_of_kind e ∙ own_place k (is_first k other)

-- two plugs of one name are one
same_plug : (players : List Lasting) (j k : ℕ) → NamesDiffer players → first_plug ≤ j → first_plug ≤ k → j < length players → k < length players → (lasting_at players j).name ≡ (lasting_at players k).name → j ≡ k
same_plug players j k differ lj lk hj hk e = elim (cases_order j k) as (λ _. j ≡ k) [
  | inl same ↦ same
  | inr (inl below) ↦ absurd (differ j k lj below hk e)
  | inr (inr above) ↦ absurd (differ k j lk above hj (sym e))
]

takes_once : (players : List Lasting) (sheet : SheetData) (kind : Kind) (j k : ℕ) → HaveKinds players → NamesDiffer players → sheet.kind ≡ kind → j < length players → k < length players → Takes (lasting_at players j) sheet → Takes (lasting_at players k) sheet → j ≡ k
takes_once players sheet Plug j k kinds differ e hj hk tj tk =
    same_plug players j k differ (plug_behind j (sym (kinds j hj) ∙ tj.kind ∙ e)) (plug_behind k (sym (kinds k hk) ∙ tk.kind ∙ e)) hj hk (tj.name e ∙ sym (tk.name e))
takes_once players sheet kind j k kinds differ e hj hk tj tk =
    same_place j k (sym (kinds j hj) ∙ tj.kind ∙ sym tk.kind ∙ kinds k hk) (λ p. let q : kind ≡ Plug = sym e ∙ sym tk.kind ∙ kinds k hk ∙ p in cc)

pub one_place_takes : OnePlaceTakes
one_place_takes left right sheet j k fits hj hk tj tk =
    takes_once left sheet sheet.kind j k fits.shape.left_kinds fits.shape.left_names refl hj hk tj tk
