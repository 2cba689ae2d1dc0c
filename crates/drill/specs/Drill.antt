-- The drill of a number: 64 machines that are drawn from it.
use Rattle.std.specs.Prelude.{ℕ, zero, suc, ◌≢◌, ◌+◌, ◌*◌, ◌/◌, ◌%◌, ◌^◌, nat_lt, if◌then◌else◌, List, [], ◌∷◌, map}
use Rattle.std.specs.List.{range_with_len, AllPairs}
use Rattle.player_core.specs.declared.kind.Kind.TheVariants.{Machine}
use Rattle.player_core.specs.State.{no_name}
use Rattle.player_core.specs.Sheet.{SheetData}

-- one step of a linear congruential generator modulo 2^64, with the constants of Knuth's MMIX
-- (D. E. Knuth, The Art of Computer Programming, vol. 2)
abbrev pub step : ℕ → ℕ
step x = (x * 6364136223846793005 + 1442695040888963407) % 2 ^ 64

-- the draw of a place, counted from 0: the number is stepped once, and once more for each place
unfoldable pub draw : ℕ → ℕ → ℕ
draw number zero = step number
draw number (suc place) = step (draw number place)

-- the weight of C of the move that is drawn: C where the top bit of the draw is 0
abbrev pub move_drawn : ℕ → ℕ
move_drawn drawn = if nat_lt drawn (2 ^ 63) then 1 else 0

-- the state that is drawn, from 0 to 15: the four highest bits of the draw
abbrev pub state_drawn : ℕ → ℕ
state_drawn drawn = drawn / 2 ^ 60

-- what the first entries of a machine lead to, where its opening is the draw at this place: the entry at
-- place p takes its next from the draw 2 p + 1 behind the opening
unfoldable pub nexts_drawn : ℕ → ℕ → ℕ → List ℕ
nexts_drawn number opening entries =
    map (λ entry. state_drawn (draw number (opening + 2 * entry + 1))) (range_with_len 0 entries)

-- what they play: the entry at place p takes its play from the draw 2 p + 2 behind the opening
unfoldable pub plays_drawn : ℕ → ℕ → ℕ → List ℕ
plays_drawn number opening entries =
    map (λ entry. move_drawn (draw number (opening + 2 * entry + 2))) (range_with_len 0 entries)

-- the sheet of a machine with this opening, these plays and these nexts
abbrev pub machine_with : ℕ → List ℕ → List ℕ → SheetData
machine_with opening table next =
    record { kind = Machine; den = 1; own = 0; other = 0; first = 0; opening = opening ∷ []; table = table; next = next; plug = no_name }

-- a machine of the drill: each takes 65 draws, its opening and then a next and a play for each of 32 entries, which are
-- two for each of 16 states, for heard C and for heard D
unfoldable pub drill_sheet : ℕ → ℕ → SheetData
drill_sheet number machine =
    let opening = 65 * machine in
    machine_with (move_drawn (draw number opening)) (plays_drawn number opening 32) (nexts_drawn number opening 32)

-- the drill of a number: 64 machines, in order
unfoldable pub drill_sheets : ℕ → List SheetData
drill_sheets number = map (drill_sheet number) (range_with_len 0 64)

-- the name of a machine: `d` and two digits of its place
unfoldable pub drill_name : ℕ → List ℕ
drill_name place = 100 ∷ (48 + place / 10) ∷ (48 + place % 10) ∷ []

-- the law: no two machines of a drill have one name
abbrev pub DrillNamesDiffer : Type 0
DrillNamesDiffer = AllPairs (λ a b. a ≢ b) (map drill_name (range_with_len 0 64))
