-- The names of the machines of a drill.
use Rattle.std.proofs.Common.{◌≡◌, ◌≢◌, ℕ, ◌+◌, ◌/◌, ◌%◌, ◌<◌, map, sym, ◌∙◌, arith}
use Rattle.std.proofs.lemmas.List.FromFn.{length-map-range_with_len, get_or-map-range_with_len}
use Rattle.std.specs.List.{range_with_len, AllPairs}
use Rattle.drill.specs.Drill.{drill_name, DrillNamesDiffer}

-- a name tells its place
place_told : (a b : ℕ) → drill_name a ≡ drill_name b → a ≡ b
unfolding drill_name
place_told a b same =
    let tens : 48 + a / 10 ≡ 48 + b / 10 = cc in
    let units : 48 + a % 10 ≡ 48 + b % 10 = cc in
    omega arith

some_differ : (places : ℕ) → AllPairs (λ a b. a ≢ b) (map drill_name (range_with_len 0 places))
some_differ places i j other less inside same =
    let within : j < places = omega (arith, length-map-range_with_len drill_name 0 places) in
    let one = get_or-map-range_with_len drill_name 0 places i i other (omega arith) (omega arith) in
    let two = get_or-map-range_with_len drill_name 0 places j j other within (omega arith) in
    let equal : i ≡ j = place_told i j (sym one ∙ same ∙ two) in
    omega arith

pub names_differ : DrillNamesDiffer
names_differ = some_differ 64
