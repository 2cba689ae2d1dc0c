-- Places in names, in a list.
use Rattle.std.specs.Prelude.{ℕ, ◌==◌, Bool, List}
use Rattle.std.specs.List.{list_any, list_all, range_with_len}

-- one of the places in a list
abbrev pub is_listed : List ℕ → ℕ → Bool
is_listed who place = list_any (λ other. other == place) who

-- each place below a count is in a list
abbrev pub are_listed : ℕ → List ℕ → Bool
are_listed count who = list_all (is_listed who) (range_with_len 0 count)
