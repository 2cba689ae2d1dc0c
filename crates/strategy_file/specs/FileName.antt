-- Names of files.
use Rattle.std.specs.Prelude.{◌≡◌, ℕ, ◌&&◌, ◌==◌, Bool, true, not, nat_le, List, length, slice_index, Option, Some, None, if◌then◌else◌}
use Rattle.std.specs.List.{list_all}

-- printable ASCII
abbrev pub is_printable : ℕ → Bool
is_printable b = nat_le 32 b && nat_le b 126

-- 1 to 255 such bytes, of which the first is no `-`
abbrev pub is_file_name : List ℕ → Bool
is_file_name bytes = ((nat_le 1 (length bytes) && nat_le (length bytes) 255) && list_all is_printable bytes) && not (slice_index bytes 0 == 45)

abbrev pub IsFileName : List ℕ → Type 0
IsFileName bytes = is_file_name bytes ≡ true

-- the name that a text is
abbrev pub file_name_of : List ℕ → Option (List ℕ)
file_name_of text = if is_file_name text then Some text else None
