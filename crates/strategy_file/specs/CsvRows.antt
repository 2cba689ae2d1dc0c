-- Machine rows as they stand in a file of their own, which is CSV.
use Rattle.std.specs.Prelude.{codes, ℕ, ◌&&◌, ◌||◌, ◌==◌, Bool, false, not, nat_le, nat_lt, List, [], ◌∷◌, length, map, slice_index, bytes_eq, Option, Some, None, option_map, option_and_then, unwrap_or, Result, Err, if◌then◌else◌}
use Rattle.std.specs.Char.{is_ascii_digit}
use Rattle.std.specs.List.{list_all}
use Rattle.std.specs.Str.Parse.{digits_value}
use Rattle.csv.specs.Reading.{default_config, records, strip_bom}
use Rattle.csv.specs.Records.{field_at}
use Rattle.player_core.specs.Sheet.{SheetData}
use Rattle.refusals.specs.declared.refusal.FileRole.TheVariants.{Machine}
use Rattle.refusals.specs.declared.refusal.Refusal.{Refusal}
use Rattle.refusals.specs.declared.refusal.Refusal.TheVariants.{BadRows, TooLong}
use Rattle.machine_rows.specs.declared.transition.Transition.{Transition}
use Rattle.machine_rows.specs.Rows.{machine_sheet}
use Rattle.strategy_file.specs.declared.draft.MachineFile.{MachineFile}
use Rattle.strategy_file.specs.TomlRows.{last_state, move_of}

-- decimal digits alone, and no zero before another digit
abbrev pub is_numeral : List ℕ → Bool
is_numeral text = (nat_le 1 (length text) && list_all is_ascii_digit text) && (length text == 1 || not (slice_index text 0 == 48))

-- a state: a numeral of at most 65535
abbrev pub state_of : List ℕ → Option ℕ
state_of text = if is_numeral text && nat_le (digits_value 10 text) last_state then Some (digits_value 10 text) else None

-- a row is a record of four fields: state, heard, next, play
abbrev pub row_of_record : List (List ℕ) → Option Transition
row_of_record (state ∷ heard ∷ next ∷ play ∷ []) =
    option_and_then (λ s. option_and_then (λ h. option_and_then (λ n. option_map (λ p. record { state = s; heard = h; next = n; play = p })
    (move_of play)) (state_of next)) (move_of heard)) (state_of state)
row_of_record _ = None

-- whether a record has this word at a place
abbrev pub word_at : List (List ℕ) → ℕ → List ℕ → Bool
word_at fields place word = unwrap_or (option_map (λ text. bytes_eq text word) (field_at fields place)) false

-- the head of the file
abbrev pub is_head : List (List ℕ) → Bool
is_head (state ∷ heard ∷ next ∷ play ∷ []) =
    ((bytes_eq state (codes "state") && bytes_eq heard (codes "heard")) && bytes_eq next (codes "next")) && bytes_eq play (codes "play")
is_head _ = false

-- the sheet of a file's records: its head, and below it rows alone
abbrev pub sheet_of_records : ℕ → MachineFile → List (List (List ℕ)) → Result SheetData Refusal
sheet_of_records entry machine [] = Err (BadRows entry 0)
sheet_of_records entry machine (head ∷ rows) =
    if is_head head then machine_sheet entry machine.start machine.opening (map row_of_record rows) else Err (BadRows entry 0)

-- the sheet of a machine's file, which has at most 1 MiB
abbrev pub csv_sheet : ℕ → MachineFile → List ℕ → Result SheetData Refusal
csv_sheet entry machine bytes =
    if nat_lt 1048576 (length bytes) then Err (TooLong (Machine entry))
    else sheet_of_records entry machine (records default_config (strip_bom bytes))
