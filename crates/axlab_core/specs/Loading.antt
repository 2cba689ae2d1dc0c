-- The lab that the files of a library make, and the one order in which its faults are told.
use Rattle.std.specs.Prelude.{◌≡◌, ℕ, ◌+◌, true, is_some, List, [], ◌∷◌, ◌++◌, length, take, get_or, Option, Some, None, option_map, Result, Ok, Err}
use Rattle.player_core.specs.declared.bench.PlugNote.{PlugNote}
use Rattle.refusals.specs.declared.refusal.Refusal.{Refusal}
use Rattle.lab_ports.specs.Holding.{Holding, file_of}
use Rattle.strategy_file.specs.declared.draft.Draft.{Draft}
use Rattle.strategy_file.specs.declared.draft.Draft.TheVariants.{Ready, FromFile}
use Rattle.lab_file.specs.declared.command.Command.{Command}
use Rattle.lab_file.specs.declared.lab.Entry.{Entry}
use Rattle.lab_file.specs.Lab.{LabData}
use Rattle.lab_file.specs.LabOf.{lab_of, longest_file}
use Rattle.lab_file.specs.Attached.{draft_with}
use Rattle.lab_file.specs.Limits.{limits_of}

-- why a call doesn't come to its work: its words are of no listed form, the next file isn't there, what was read is refused, or
-- a line of it is denied
pub data Stop : Type 0 where
  Unlisted : Stop
  Missing : Stop
  Refuses : Refusal → Stop
  Denies : ℕ → Stop

infixl 10 ◌>>=◌
-- goes on with what there is, or stays where it stopped
abbrev pub ◌>>=◌ : {A B : Type 0} → Result A Stop → (A → Result B Stop) → Result B Stop
(Ok x) >>= next = next x
(Err stop) >>= next = Err stop

abbrev pub or_missing : {A : Type 0} → Option A → Result A Stop
or_missing None = Err Missing
or_missing (Some x) = Ok x

abbrev pub or_stop : {A : Type 0} → Result A Refusal → Result A Stop
or_stop (Ok x) = Ok x
or_stop (Err refusal) = Err (Refuses refusal)

-- a file by its name, as far as it is read, up to a limit and a byte, so that a longer file shows: what the library holds, where
-- it tells it; else the bytes that the read gave
abbrev pub part_source : ℕ → Option Holding → List ℕ → List ℕ → Option (List ℕ)
part_source limit None given name = Some given
part_source limit (Some files) given name = option_map (take (limit + 1)) (file_of name files)

-- up to 1 MiB
abbrev pub file_source : Option Holding → List ℕ → List ℕ → Option (List ℕ)
file_source = part_source longest_file

-- the file of the entry at a place, where the reads gave these bytes by place
abbrev pub machine_source : Option Holding → List (List ℕ) → ℕ → List ℕ → Option (List ℕ)
machine_source holding given place = file_source holding (get_or given place [])

-- the draft of the entry at a place, with its file where it names one
abbrev pub draft_read : (List ℕ → Option (List ℕ)) → ℕ → Draft → Result Draft Stop
draft_read source place (Ready sheet) = Ok (Ready sheet)
draft_read source place (FromFile machine) = or_missing (source machine.file) >>= λ bytes. or_stop (draft_with (place + 1) (FromFile machine) bytes)

-- these entries, and those behind them with their files, one after the other
abbrev pub entries_read : (ℕ → List ℕ → Option (List ℕ)) → List Entry → List Entry → Result (List Entry) Stop
entries_read source done [] = Ok done
entries_read source done (entry ∷ rest) = do
  draft ← draft_read (source (length done)) (length done) entry.draft
  entries_read source (done ++ (record entry { draft = draft }) ∷ []) rest

-- the lab that the bytes of the lab file give
abbrev pub lab_read : List PlugNote → Option (List ℕ) → Result LabData Stop
lab_read notes found = or_missing found >>= λ bytes. or_stop (lab_of notes bytes)

-- the lab with its files: the lab file, then the machine files in the order of the entries
abbrev pub lab_filed : List PlugNote → Option (List ℕ) → (ℕ → List ℕ → Option (List ℕ)) → Result LabData Stop
lab_filed notes lab_bytes source = do
  lab ← lab_read notes lab_bytes
  entries ← entries_read source [] lab.entries
  Ok (record lab { entries = entries })

-- the lab again where its job of a command keeps the limits
abbrev pub lab_kept : Command → List PlugNote → LabData → Result LabData Stop
lab_kept command notes lab = or_stop (limits_of notes command lab) >>= λ kept. Ok lab

-- the lab of a command: with its files, and then the limits of the job
abbrev pub lab_for : Command → List PlugNote → Option (List ℕ) → (ℕ → List ℕ → Option (List ℕ)) → Result LabData Stop
lab_for command notes lab_bytes source = lab_filed notes lab_bytes source >>= lab_kept command notes

-- over this library the lab of this name, with its files, comes to this answer: by what the library holds, where it tells it, whatever was given;
-- else by some bytes that the reads gave
pub record Loads (notes : List PlugNote) (name : List ℕ) (holding : Option Holding) (answer : Result LabData Stop) : Type 0 where
  pub lab_given : List ℕ
  pub machines_given : List (List ℕ)
  pub is : lab_filed notes (file_source holding lab_given name) (machine_source holding machines_given) ≡ answer

-- the library tells what it holds
abbrev pub IsTold : Option Holding → Type 0
IsTold holding = is_some holding ≡ true
