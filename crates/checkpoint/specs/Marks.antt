-- Marks of any size: a text may claim more rows than any automaton has.
use Rattle.std.specs.Prelude.{ℕ, ◌+◌, ◌*◌, ◌-◌, ◌^◌, ◌&&◌, min, nat_lt, List, [], ◌∷◌, Option, Some, None, option_map, if◌then◌else◌}
use Rattle.std.specs.Fmt.{decimal}
use Rattle.std.specs.List.{list_all}
use Rattle.texts.specs.Forms.{Form}
use Rattle.texts.specs.Numbers.{is_digit, is_well_led}

-- the number that digits make behind those of n
abbrev pub number_from : ℕ → List ℕ → ℕ
number_from n [] = n
number_from n (c ∷ cs) = number_from (n * 10 + (c - 48)) cs

-- the number of any size that a text of digits shows, without leading zeros
unfoldable pub any_number_of : List ℕ → Option ℕ
any_number_of t = if is_well_led t && list_all is_digit t then Some (number_from 0 t) else None

-- a mark of any size; no automaton has 2^32 rows
abbrev pub any_mark : Form ℕ
any_mark = record { text = decimal; read = any_number_of; is_in = λ n. nat_lt n (2 ^ 32) }

-- ---- as the code holds them

-- 2^32 - 1 for each larger number
abbrev pub capped : ℕ → ℕ
capped n = min n 4294967295

abbrev pub capped_from : ℕ → List ℕ → Option ℕ
capped_from n digits = if list_all is_digit digits then Some (capped (number_from n digits)) else None

unfoldable pub capped_number_of : List ℕ → Option ℕ
capped_number_of t = option_map capped (any_number_of t)

abbrev pub capped_mark : Form ℕ
capped_mark = record any_mark { read = capped_number_of }
