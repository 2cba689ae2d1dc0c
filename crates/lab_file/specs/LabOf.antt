-- The lab that the bytes of a lab file stand for, over a bench whose plugs have these notes, or the first refusal. Tables
-- are read in the order of the equations below, and each refusal has the place of what is wrong first.
use Rattle.std.specs.Prelude.{ℕ, ◌+◌, ◌==◌, ◌&&◌, Bool, true, nat_le, nat_lt, is_some, List, [], ◌∷◌, ◌++◌, length, position, Option, Some, None, Result, Ok, Err, bytes_eq, if◌then◌else◌}
use Rattle.std.specs.Str.{is_utf8}
use Rattle.toml.specs.Data.{Members, Items, no_items, item, as_integer, as_table}
use Rattle.toml.specs.Parse.{parse_document}
use Rattle.history_model.specs.Name.{is_name}
use Rattle.history_model.specs.Noise.{FlipRate}
use Rattle.player_core.specs.declared.bench.PlugNote.{PlugNote}
use Rattle.refusals.specs.declared.refusal.FileRole.TheVariants.{Lab}
use Rattle.refusals.specs.declared.refusal.Refusal.{Refusal}
use Rattle.refusals.specs.declared.refusal.Refusal.TheVariants.{TooLong, Syntax, Version, WrongType, OutOfRange, BadName, DoubledName}
use Rattle.refusals.specs.declared.place.KeyName.TheVariants as key
use Rattle.refusals.specs.Refusing.{◌>>=◌, or_refuse}
use Rattle.lab_keys.specs.Keys.{value_at, text_at, array_at, table_of, optional_table_at, in_range, item_count}
use Rattle.job_tables.specs.JobsOf.{top, jobs_of}
use Rattle.game_file.specs.GameOf.{game_of, entry_flip_rate}
use Rattle.strategy_file.specs.SheetOf.{at, draft_of}
use Rattle.lab_file.specs.declared.lab.Entry.{Entry}
use Rattle.lab_file.specs.Lab.{LabData, names_of}

-- a whole number, of which 1 and 2 are versions
unfoldable pub version_at : Members → Result ℕ Refusal
version_at tree = do
  found ← value_at (top key.Version) tree
  version ← or_refuse (WrongType (top key.Version)) (as_integer found)
  or_refuse Version (in_range 1 2 version)

-- the place, from 0, of the first entry of a name
abbrev pub place_of : List ℕ → List Entry → Option ℕ
place_of name entries = position (λ entry. bytes_eq name entry.name) entries

abbrev pub name_of : List ℕ → Option (List ℕ)
name_of text = if is_name text then Some text else None

-- the name, which no entry before has
unfoldable pub new_name : ℕ → List Entry → Members → Result (List ℕ) Refusal
new_name number before tree = do
  text ← text_at (at number key.Name) tree
  name ← or_refuse (BadName number) (name_of text)
  if is_some (place_of name before) then Err (DoubledName number) else Ok name

-- an entry's own noise, where its table has one, else that of the lab
abbrev pub own_or : FlipRate → ℕ → Option Members → Result FlipRate Refusal
own_or noise number None = Ok noise
own_or noise number (Some tree) = entry_flip_rate number tree

-- the noise of the entry of this number: in version 1 that of the lab, whatever its table has
unfoldable pub entry_noise : ℕ → FlipRate → ℕ → Members → Result FlipRate Refusal
entry_noise version noise number tree = if version == 1 then Ok noise else (optional_table_at (at number key.Noise) tree >>= own_or noise number)

-- the entry behind these, in a lab of this version and noise; entries count from 1
unfoldable pub entry_of : List PlugNote → ℕ → FlipRate → List Entry → Members → Result Entry Refusal
entry_of notes version noise before tree = do
  name ← new_name (length before + 1) before tree
  draft ← draft_of notes (length before + 1) tree
  own ← entry_noise version noise (length before + 1) tree
  Ok (record { name = name; draft = draft; noise = own })

-- these entries and those of the tables behind them
abbrev pub entries_from : List PlugNote → ℕ → FlipRate → List Entry → Items → Result (List Entry) Refusal
entries_from notes version noise before no_items = Ok before
entries_from notes version noise before (item found rest) = do
  tree ← table_of (top key.Entry) found
  entry ← entry_of notes version noise before tree
  entries_from notes version noise (before ++ entry ∷ []) rest

abbrev pub are_tables : Items → Bool
are_tables no_items = true
are_tables (item found rest) = is_some (as_table found) && are_tables rest

-- the entries of 1 to 64 tables; the types of all are tested before their number
unfoldable pub entries_of : List PlugNote → ℕ → FlipRate → Items → Result (List Entry) Refusal
entries_of notes version noise items =
    if are_tables items then
    (if nat_le 1 (item_count items) && nat_le (item_count items) 64 then entries_from notes version noise [] items else Err (OutOfRange (top key.Entry)))
    else Err (WrongType (top key.Entry))

unfoldable pub entries_at : List PlugNote → ℕ → FlipRate → Members → Result (List Entry) Refusal
entries_at notes version noise tree = array_at (top key.Entry) tree >>= entries_of notes version noise

-- the lab of a document
unfoldable pub lab_in : List PlugNote → Members → Result LabData Refusal
lab_in notes tree = do
  version ← version_at tree
  game ← game_of version tree
  entries ← entries_at notes version game.2 tree
  jobs ← jobs_of (names_of entries) tree
  Ok (record { version = version; offset = game.1; game = game.0; noise = game.2; entries = entries; jobs = jobs })

-- the document that the bytes are, where they are one
abbrev pub reading : List ℕ → Option Members
reading bytes = if is_utf8 bytes then parse_document bytes else None

-- 1 MiB is not too long
abbrev pub longest_file : ℕ
longest_file = 1048576

-- the lab of the bytes
unfoldable pub lab_of : List PlugNote → List ℕ → Result LabData Refusal
lab_of notes bytes =
    if nat_lt longest_file (length bytes) then Err (TooLong Lab)
    else or_refuse Syntax (reading bytes) >>= lab_in notes
