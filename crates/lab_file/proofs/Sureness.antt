-- Sureness by the weights of a sheet.
use Rattle.std.proofs.Common.{◌≡◌, ℕ, ◌-◌, ◌*◌, ◌%◌, ◌||◌, ◌&&◌, ◌==◌, true, List, [], ◌∷◌, map, slice_index, refl, ap, arith}
use Rattle.std.proofs.lemmas.Bool.Decides.{nat_tests}
use Rattle.std.specs.List.{list_all, range_with_len}
use Rattle.history_model.specs.Automaton.{Row}
use Rattle.player_core.specs.Sheet.{SheetData, states}
use Rattle.player_core.specs.AutomatonOf.{vector_automaton, vector_row, machine_automaton, machine_row}
use Rattle.player_core.specs.Bench.{is_sure}
use Rattle.lab_file.specs.Sure.{is_sure_weight}

rows_of_vector : (den : ℕ) (weights : List ℕ) → list_all (λ (row : Row). row.weight == 0 || row.weight == den) (map vector_row weights) ≡ list_all (is_sure_weight den) weights
rows_of_vector den [] = refl
rows_of_vector den (weight ∷ weights) = ap (λ b. is_sure_weight den weight && b) (rows_of_vector den weights)

pub vector_sureness : (sheet : SheetData) → is_sure (vector_automaton sheet) ≡ (is_sure_weight sheet.den (slice_index sheet.opening 0) && list_all (is_sure_weight sheet.den) sheet.table)
vector_sureness sheet = ap (λ b. is_sure_weight sheet.den (slice_index sheet.opening 0) && b) (rows_of_vector sheet.den sheet.table)

one_or_none : (k : ℕ) → (1 - k % 2 == 0 || 1 - k % 2 == 1) ≡ true
one_or_none k = grind (arith, nat_tests)

rows_of_machine : (sheet : SheetData) (ks : List ℕ) → list_all (λ (row : Row). row.weight == 0 || row.weight == 1) (map (machine_row sheet) ks) ≡ true
rows_of_machine sheet [] = refl
rows_of_machine sheet (k ∷ ks) = rw (one_or_none k) (rows_of_machine sheet ks)

pub machines_are_sure : (sheet : SheetData) → is_sure (machine_automaton sheet) ≡ true
machines_are_sure sheet = rows_of_machine sheet (range_with_len 0 (2 * states sheet))
