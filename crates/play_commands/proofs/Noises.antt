-- The noises of entries that a report names.
use Rattle.std.proofs.Common.{◌≡◌, ℕ, zero, suc, ◌+◌, ◌<◌, ◌==◌, List, [], ◌∷◌, length, map, get_or, bytes_eq, refl, sym, ◌∙◌, ap, add-one, inl, inr, arith}
use Rattle.std.proofs.lemmas.Bool.{cases_Bool}
use Rattle.std.proofs.lemmas.Slice.Eq.{bytes_eq-Decides}
use Rattle.history_model.specs.Noise.{no_noise}
use Rattle.report_names.specs.Names.{place_in}
use Rattle.report_making.specs.Made.{names_of_pair, noise_of, noises_in_order, noises_of_pair}
use Rattle.lab_file.specs.declared.lab.Entry.{Entry}
use Rattle.lab_file.specs.Lab.{LabData, NamesDiffer, entry_at, names_of}
use Rattle.play_commands.specs.Contestants.{noises_of}
use Rattle.play_commands.specs.RightLine.{noise_named, noises_named}

-- an entry is at the place of its name
own_place : (entries : List Entry) → NamesDiffer entries → (i : ℕ) → i < length entries → place_in (names_of entries) (entry_at entries i).name ≡ i
own_place [] differ i inside = absurd (omega (arith, inside))
own_place (entry ∷ entries) differ zero inside = rw ((bytes_eq-Decides entry.name entry.name).1 refl) refl
own_place (entry ∷ entries) differ (suc i) inside =
    let name = (entry_at entries i).name in
    elim (cases_Bool (bytes_eq entry.name name)) [
      | inl same ↦ absurd (differ 0 (suc i) (omega arith) inside ((bytes_eq-Decides entry.name name).0 same))
      | inr other ↦
          rw other
          (ap (λ n. n + 1) (own_place entries (λ j k below within. differ (suc j) (suc k) (omega (arith, below)) (omega (arith, within))) i (omega (arith, inside)))
          ∙ add-one i)
    ]

noise_is : (lab : LabData) → NamesDiffer lab.entries → (i : ℕ) → i < length lab.entries → noise_named lab (entry_at lab.entries i).name ≡ (entry_at lab.entries i).noise
noise_is lab differ i inside = ap (λ k. (entry_at lab.entries k).noise) (own_place lab.entries differ i inside)

-- those of the two of a match
pub pair_noises : (lab : LabData) → NamesDiffer lab.entries → (i j : ℕ) → i < length lab.entries → j < length lab.entries
    → noises_of_pair lab.version (entry_at lab.entries i).name (entry_at lab.entries j).name (entry_at lab.entries i).noise (entry_at lab.entries j).noise
    ≡ noises_named lab (names_of_pair (entry_at lab.entries i).name (entry_at lab.entries j).name)
pair_noises lab differ i j left_inside right_inside =
    let l = noise_is lab differ i left_inside in
    let r = noise_is lab differ j right_inside in
    elim (cases_Bool (lab.version == 1)) [
      | inl first ↦ rw first refl
      | inr second ↦
          elim (cases_Bool (bytes_eq (entry_at lab.entries i).name (entry_at lab.entries j).name)) [
            | inl same ↦ rw (second, same) (ap (λ n. n ∷ []) (sym l))
            | inr other ↦ rw (second, other) (ap (λ n. n ∷ (entry_at lab.entries j).noise ∷ []) (sym l) ∙ ap (λ n. noise_named lab (entry_at lab.entries i).name ∷ n ∷ []) (sym r))
          ]
    ]

noise_at : (entries : List Entry) (place : ℕ) → get_or (noises_of entries) place no_noise ≡ (entry_at entries place).noise
noise_at [] place = refl
noise_at (entry ∷ entries) zero = refl
noise_at (entry ∷ entries) (suc place) = noise_at entries place

each_noise : (lab : LabData) (order : List (List ℕ)) → map (noise_of (names_of lab.entries) (noises_of lab.entries)) order ≡ map (noise_named lab) order
each_noise lab [] = refl
each_noise lab (name ∷ order) =
    ap (λ n. n ∷ map (noise_of (names_of lab.entries) (noises_of lab.entries)) order) (noise_at lab.entries (place_in (names_of lab.entries) name))
    ∙ ap (λ ns. noise_named lab name ∷ ns) (each_noise lab order)

-- those of a tournament
pub table_noises : (lab : LabData) (order : List (List ℕ)) → noises_in_order lab.version (names_of lab.entries) (noises_of lab.entries) order ≡ noises_named lab order
table_noises lab order = elim (cases_Bool (lab.version == 1)) [
  | inl first ↦ rw first refl
  | inr second ↦ rw second (each_noise lab order)
]
