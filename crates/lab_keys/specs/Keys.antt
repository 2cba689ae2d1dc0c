-- What stands at a key of a table of the lab file: the value, or why the file is refused. A key that must be there is
-- tested in the order absent, of another type, out of range.
use Rattle.std.specs.Prelude.{ℕ, ℤ, pos, negsuc, ◌+◌, ◌==◌, ◌&&◌, Bool, true, false, nat_le, int_le, is_some, List, [], ◌∷◌, Option, Some, None, option_map, option_and_then, Result, Ok, Err, if◌then◌else◌}
use Rattle.std.specs.Option.{option_map_or}
use Rattle.toml.specs.Data.{Data, Members, Items, no_items, item, get_member, as_integer, as_str, as_bool, as_array, as_table}
use Rattle.refusals.specs.declared.place.Place.{Place}
use Rattle.refusals.specs.declared.refusal.Refusal.{Refusal}
use Rattle.refusals.specs.declared.refusal.Refusal.TheVariants.{MissingKey, WrongType, OutOfRange}
use Rattle.refusals.specs.Refusing.{◌>>=◌, or_refuse}
use Rattle.refusals.specs.KeyWord.{key_word}

-- what stands at the key, if anything does
abbrev pub found_at : Place → Members → Option Data
found_at place tree = get_member (key_word place.key) tree

abbrev pub value_at : Place → Members → Result Data Refusal
value_at place tree = or_refuse (MissingKey place) (found_at place tree)

-- a value that stands at the key, by its type
abbrev pub text_of : Place → Data → Result (List ℕ) Refusal
text_of place found = or_refuse (WrongType place) (as_str found)

abbrev pub truth_of : Place → Data → Result Bool Refusal
truth_of place found = or_refuse (WrongType place) (as_bool found)

abbrev pub array_of : Place → Data → Result Items Refusal
array_of place found = or_refuse (WrongType place) (as_array found)

abbrev pub table_of : Place → Data → Result Members Refusal
table_of place found = or_refuse (WrongType place) (as_table found)

-- the number, where it lies in the range
abbrev pub in_range : ℕ → ℕ → ℤ → Option ℕ
in_range low high (pos n) = if nat_le low n && nat_le n high then Some n else None
in_range low high (negsuc n) = None

-- a whole number from `low` to `high`
abbrev pub whole_of : Place → ℕ → ℕ → Data → Result ℕ Refusal
whole_of place low high found = or_refuse (WrongType place) (as_integer found) >>= λ n. or_refuse (OutOfRange place) (in_range low high n)

-- the same in a range that may begin below 0
abbrev pub signed_in_range : ℤ → ℤ → ℤ → Option ℤ
signed_in_range low high n = if int_le low n && int_le n high then Some n else None

abbrev pub signed_of : Place → ℤ → ℤ → Data → Result ℤ Refusal
signed_of place low high found = or_refuse (WrongType place) (as_integer found) >>= λ n. or_refuse (OutOfRange place) (signed_in_range low high n)

-- every item is a whole number
abbrev pub are_whole : Items → Bool
are_whole no_items = true
are_whole (item found rest) = is_some (as_integer found) && are_whole rest

abbrev pub item_count : Items → ℕ
item_count no_items = 0
item_count (item found rest) = item_count rest + 1

-- a whole number from 0 to `high`, if it is one
abbrev pub number_within : ℕ → Data → Option ℕ
number_within high found = option_and_then (in_range 0 high) (as_integer found)

-- the items as such numbers, if each is one
abbrev pub numbers_within : ℕ → Items → Option (List ℕ)
numbers_within high no_items = Some []
numbers_within high (item found rest) = option_and_then (λ n. option_map (λ more. n ∷ more) (numbers_within high rest)) (number_within high found)

-- so many whole numbers from 0 to `high`; the types of all are tested before the length and the ranges
abbrev pub wholes_in : Place → ℕ → ℕ → Items → Result (List ℕ) Refusal
wholes_in place count high items =
    if are_whole items then or_refuse (OutOfRange place) (if item_count items == count then numbers_within high items else None)
    else Err (WrongType place)

abbrev pub wholes_of : Place → ℕ → ℕ → Data → Result (List ℕ) Refusal
wholes_of place count high found = array_of place found >>= wholes_in place count high

-- every item is a text
abbrev pub are_texts : Items → Bool
are_texts no_items = true
are_texts (item found rest) = is_some (as_str found) && are_texts rest

-- every item is a list of texts
abbrev pub are_text_lists : Items → Bool
are_text_lists no_items = true
are_text_lists (item found rest) = option_map_or are_texts (as_array found) false && are_text_lists rest

-- a list of two
abbrev pub is_pair : Data → Bool
is_pair found = option_map_or (λ items. item_count items == 2) (as_array found) false

-- every item is a list of two
abbrev pub are_pairs : Items → Bool
are_pairs no_items = true
are_pairs (item found rest) = is_pair found && are_pairs rest

-- lists of two texts; the types of all are tested before the lengths
abbrev pub pairs_in : Place → Items → Result Items Refusal
pairs_in place items = if are_text_lists items then (if are_pairs items then Ok items else Err (OutOfRange place)) else Err (WrongType place)

-- the two texts of a list
abbrev pub pair_in : Place → Items → Result (List ℕ × List ℕ) Refusal
pair_in place (item left (item right no_items)) = text_of place left >>= λ first. text_of place right >>= λ second. Ok (first, second)
pair_in place _ = Err (OutOfRange place)

abbrev pub pair_of : Place → Data → Result (List ℕ × List ℕ) Refusal
pair_of place found = array_of place found >>= pair_in place

-- the same at a key that must be there
abbrev pub text_at : Place → Members → Result (List ℕ) Refusal
text_at place tree = value_at place tree >>= text_of place

abbrev pub array_at : Place → Members → Result Items Refusal
array_at place tree = value_at place tree >>= array_of place

abbrev pub table_at : Place → Members → Result Members Refusal
table_at place tree = value_at place tree >>= table_of place

abbrev pub whole_at : Place → ℕ → ℕ → Members → Result ℕ Refusal
whole_at place low high tree = value_at place tree >>= whole_of place low high

abbrev pub signed_at : Place → ℤ → ℤ → Members → Result ℤ Refusal
signed_at place low high tree = value_at place tree >>= signed_of place low high

abbrev pub wholes_at : Place → ℕ → ℕ → Members → Result (List ℕ) Refusal
wholes_at place count high tree = value_at place tree >>= wholes_of place count high

-- a truth value, or the default where the key is absent
abbrev pub truth_or : Place → Bool → Option Data → Result Bool Refusal
truth_or place default None = Ok default
truth_or place default (Some found) = truth_of place found

abbrev pub truth_at : Place → Bool → Members → Result Bool Refusal
truth_at place default tree = truth_or place default (found_at place tree)

-- the table, or none where the key is absent
abbrev pub table_if : Place → Option Data → Result (Option Members) Refusal
table_if place None = Ok None
table_if place (Some found) = table_of place found >>= λ table. Ok (Some table)

abbrev pub optional_table_at : Place → Members → Result (Option Members) Refusal
optional_table_at place tree = table_if place (found_at place tree)

-- the lists of two texts, or none where the key is absent
abbrev pub pairs_if : Place → Option Data → Result (Option Items) Refusal
pairs_if place None = Ok None
pairs_if place (Some found) = array_of place found >>= λ items. pairs_in place items >>= λ pairs. Ok (Some pairs)

abbrev pub optional_pairs_at : Place → Members → Result (Option Items) Refusal
optional_pairs_at place tree = pairs_if place (found_at place tree)
