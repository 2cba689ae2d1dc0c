-- What one entry of a lab file stands for, by its keys after the name, or the first refusal.
use Rattle.std.specs.Prelude.{codes, ℕ, ◌+◌, ◌^◌, max, nat_lt, List, find, bytes_eq, Option, Some, None, option_map, Result, Ok, Err, if◌then◌else◌}
use Rattle.toml.specs.Data.{Data, Members}
use Rattle.history_model.specs.declared.moves.Move.{Move}
use Rattle.player_core.specs.declared.bench.PlugNote.{PlugNote}
use Rattle.player_core.specs.Sheet.{SheetData}
use Rattle.refusals.specs.declared.place.KeyName.{KeyName}
use Rattle.refusals.specs.declared.place.KeyName.TheVariants.{Kind, Den, Opening, Weights, Start, Rows, File, Own, Other, First, Table, Plug}
use Rattle.refusals.specs.declared.place.Place.{Place}
use Rattle.refusals.specs.declared.place.TableName.TheVariants.{Entry}
use Rattle.refusals.specs.declared.refusal.Refusal.{Refusal}
use Rattle.refusals.specs.declared.refusal.Refusal.TheVariants.{MissingKey, OutOfRange, BadName, UnknownKind, UnknownPlug}
use Rattle.refusals.specs.Refusing.{◌>>=◌, or_refuse}
use Rattle.lab_keys.specs.Keys.{found_at, text_at, text_of, array_of, whole_at, wholes_at}
use Rattle.strategy_file.specs.declared.draft.Draft.{Draft}
use Rattle.strategy_file.specs.declared.draft.Draft.TheVariants.{Ready, FromFile}
use Rattle.strategy_file.specs.FileName.{file_name_of}
use Rattle.machine_rows.specs.Rows.{machine_sheet}
use Rattle.strategy_file.specs.Sheets.{vector_with, table_with, plug_with}
use Rattle.strategy_file.specs.TomlRows.{move_of, last_state, rows_in}

-- a key of the entry of this number
abbrev pub at : ℕ → KeyName → Place
at entry key = record { table = Entry; entry = entry; key = key }

-- a memory-one vector: the weights of C after CC, CD, DC and DD of (own, other)
unfoldable pub vector_of : ℕ → Members → Result SheetData Refusal
vector_of entry tree = do
  den ← whole_at (at entry Den) 1 1000 tree
  opening ← whole_at (at entry Opening) 0 den tree
  weights ← wholes_at (at entry Weights) 4 den tree
  Ok (vector_with den opening weights)

-- a finite machine from a row list of the lab file, or from a file by its name
unfoldable pub machine_in_lab : ℕ → ℕ → Move → Data → Result Draft Refusal
machine_in_lab entry start opening found = do
  rows ← array_of (at entry Rows) found
  sheet ← machine_sheet entry start opening (rows_in rows)
  Ok (Ready sheet)

unfoldable pub machine_in_file : ℕ → ℕ → Move → Data → Result Draft Refusal
machine_in_file entry start opening found = do
  text ← text_of (at entry File) found
  file ← or_refuse (BadName entry) (file_name_of text)
  Ok (FromFile (record { file = file; start = start; opening = opening }))

-- exactly one of `rows` and `file` stands
unfoldable pub machine_from : ℕ → ℕ → Move → Option Data → Option Data → Result Draft Refusal
machine_from entry start opening None None = Err (MissingKey (at entry Rows))
machine_from entry start opening (Some rows) (Some file) = Err (OutOfRange (at entry File))
machine_from entry start opening (Some rows) None = machine_in_lab entry start opening rows
machine_from entry start opening None (Some file) = machine_in_file entry start opening file

unfoldable pub machine_of : ℕ → Members → Result Draft Refusal
machine_of entry tree = do
  start ← whole_at (at entry Start) 0 last_state tree
  text ← text_at (at entry Opening) tree
  opening ← or_refuse (OutOfRange (at entry Opening)) (move_of text)
  machine_from entry start opening (found_at (at entry Rows) tree) (found_at (at entry File) tree)

-- the weights of a lookup table that looks at so many own and other last plays and first plays
unfoldable pub table_weights : ℕ → ℕ → ℕ → ℕ → ℕ → Members → Result SheetData Refusal
table_weights entry den own other first tree = do
  opening ← wholes_at (at entry Opening) (max (max own other) first) den tree
  table ← wholes_at (at entry Table) (2 ^ (own + other + first)) den tree
  Ok (table_with den own other first opening table)

unfoldable pub table_of : ℕ → Members → Result SheetData Refusal
table_of entry tree = do
  den ← whole_at (at entry Den) 1 1000 tree
  own ← whole_at (at entry Own) 0 4 tree
  other ← whole_at (at entry Other) 0 4 tree
  first ← whole_at (at entry First) 0 4 tree
  if nat_lt 8 (own + other + first) then Err (OutOfRange (at entry First)) else table_weights entry den own other first tree

-- the name of the first plug that has it
abbrev pub plug_named : List PlugNote → List ℕ → Option (List ℕ)
plug_named notes name = option_map (λ note. note.name) (find (λ note. bytes_eq name note.name) notes)

unfoldable pub plug_of : List PlugNote → ℕ → Members → Result SheetData Refusal
plug_of notes entry tree = do
  text ← text_at (at entry Plug) tree
  name ← or_refuse (UnknownPlug entry) (plug_named notes text)
  Ok (plug_with name)

-- a sheet that needs no file
abbrev pub ready : Result SheetData Refusal → Result Draft Refusal
ready reading = reading >>= λ sheet. Ok (Ready sheet)

unfoldable pub draft_of_kind : List ℕ → List PlugNote → ℕ → Members → Result Draft Refusal
draft_of_kind kind notes entry tree =
    if bytes_eq kind (codes "memory-one") then ready (vector_of entry tree)
    else if bytes_eq kind (codes "machine") then machine_of entry tree
    else if bytes_eq kind (codes "lookup") then ready (table_of entry tree)
    else if bytes_eq kind (codes "plug") then ready (plug_of notes entry tree)
    else Err (UnknownKind entry)

-- the draft of an entry, by its keys in the order of its kind
unfoldable pub draft_of : List PlugNote → ℕ → Members → Result Draft Refusal
draft_of notes entry tree = do
  kind ← text_at (at entry Kind) tree
  draft_of_kind kind notes entry tree
