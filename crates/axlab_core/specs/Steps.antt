-- How a lab is loaded, read by read.
use Rattle.std.specs.Prelude.{◌≡◌, ◌⊎◌, ℕ, All, List, [], Option, Result, Ok, Err}
use Rattle.player_core.specs.declared.bench.PlugNote.{PlugNote}
use Rattle.refusals.specs.declared.refusal.FileError.{FileError}
use Rattle.refusals.specs.declared.refusal.FileError.TheVariants as file
use Rattle.lab_ports.specs.Holding.{Holding}
use Rattle.strategy_file.specs.declared.draft.Draft.{Draft}
use Rattle.lab_file.specs.Lab.{LabData, entry_at}
use Rattle.lab_file.specs.Attached.{set_draft}
use Rattle.lab_file.specs.Limits.{limits_of}
use Rattle.lab_file.specs.Notes.{AreNoted}
use Rattle.axlab_core.specs.declared.status.Status.{Status}
use Rattle.axlab_core.specs.declared.status.Status.TheVariants as statuses
use Rattle.axlab_core.specs.declared.load.LoadError.{LoadError}
use Rattle.axlab_core.specs.declared.load.LoadError.TheVariants.{Unread, Refused, NoMemory}
use Rattle.lab_file.specs.declared.command.Command.{Command}
use Rattle.axlab_core.specs.declared.second.Second.{Second}
use Rattle.axlab_core.specs.Input.{Input, Given, Names, sources, second_for, loaded_for}
use Rattle.play_commands.specs.Ready.{IsReadyEntry}
use Rattle.axlab_core.specs.Loading.{Stop, Missing, Refuses, part_source, file_source, machine_source, lab_read, draft_read, entries_read}

-- a file's error
abbrev pub of_file : FileError → LoadError
of_file (file.Refused refusal) = Refused refusal
of_file file.NoMemory = NoMemory

-- how the call ends where a load fails
abbrev pub load_status : LoadError → Status
load_status Unread = statuses.ReadFault
load_status (Refused refusal) = statuses.Refused refusal
load_status NoMemory = statuses.NoMemory

-- why a read gave nothing: the library failed, or it lacks the file
abbrev pub ReadFails : LoadError → Type 0 → Type 0 → Type 0
ReadFails Unread failed missing = failed ⊎ missing
ReadFails (Refused refusal) failed missing = ⊥
ReadFails NoMemory failed missing = Unit {0}

-- why there is no lab: the library failed, or the reads stopped so; a file is missing only where the library tells what it holds
abbrev pub Explains : LoadError → Type 0 → Type 0 → (Stop → Type 0) → Type 0
Explains Unread failed told stops = failed ⊎ (told × stops Missing)
Explains (Refused refusal) failed told stops = stops (Refuses refusal)
Explains NoMemory failed told stops = Unit {0}

-- the read of the lab file made this of it
pub record ReadsLab (notes : List PlugNote) (name : List ℕ) (holding : Option Holding) (answer : Result LabData Stop) : Type 0 where
  pub given : List ℕ
  pub is : lab_read notes (file_source holding given name) ≡ answer

-- the entry at a place has its sheet now; the read for it, if there is one, gave these bytes
pub record Attaches (holding : Option Holding) (place : ℕ) (old new : LabData) : Type 0 where
  pub bytes : List ℕ
  pub draft : Draft
  pub read : draft_read (file_source holding bytes) place (entry_at old.entries place).draft ≡ Ok draft
  pub set : new ≡ record old { entries = set_draft old.entries place draft }

-- the entry at a place can have none, for this reason
pub record AttachStops (holding : Option Holding) (place : ℕ) (old : LabData) (stop : Stop) : Type 0 where
  pub bytes : List ℕ
  pub read : draft_read (file_source holding bytes) place (entry_at old.entries place).draft ≡ Err stop

-- all entries have their sheets now
pub record AttachesAll (holding : Option Holding) (old new : LabData) : Type 0 where
  pub given : List (List ℕ)
  pub is : entries_read (machine_source holding given) [] old.entries ≡ Ok new.entries
  pub rest : new ≡ record old { entries = new.entries }

-- some entry can have none, for this reason; those before it can
pub record AttachAllStops (holding : Option Holding) (old : LabData) (stop : Stop) : Type 0 where
  pub given : List (List ℕ)
  pub is : entries_read (machine_source holding given) [] old.entries ≡ Err stop

-- the read of the second file made this of it
pub record ReadsSecond (command : Command) (name : List ℕ) (holding : Option Holding) (answer : Result Second Stop) : Type 0 where
  pub given : List ℕ
  pub is : second_for command (λ limit. part_source limit holding given name) ≡ answer

-- the reads of all files made this of them
pub record LoadsInput (command : Command) (notes : List PlugNote) (names : Names) (holding : Option Holding) (answer : Result Input Stop) : Type 0 where
  pub given : Given
  pub is : loaded_for command notes (sources names holding given) ≡ answer

-- a lab is fit for the work of a command: the job keeps the limits, each sheet is there, and each plug is noted
pub record IsFit (command : Command) (notes : List PlugNote) (lab : LabData) : Type 0 where
  pub kept : limits_of notes command lab ≡ Ok tt
  pub ready : All IsReadyEntry lab.entries
  pub noted : AreNoted notes lab.entries
