-- Which files a call reads, and in which order.
use Rattle.std.specs.Prelude.{◌≡◌, ℕ, List, [], ◌∷◌, ◌++◌, take, Option, Some, None, Result, Ok, Err}
use Rattle.player_core.specs.declared.bench.PlugNote.{PlugNote}
use Rattle.player_core.specs.Bench.{notes_of}
use Rattle.refusals.specs.declared.refusal.FileRole.{FileRole}
use Rattle.lab_ports.specs.Holding.{Holding}
use Rattle.strategy_file.specs.declared.draft.Draft.{Draft}
use Rattle.strategy_file.specs.declared.draft.Draft.TheVariants.{Ready, FromFile}
use Rattle.lab_file.specs.declared.command.Command.{Command}
use Rattle.lab_file.specs.declared.lab.Entry.{Entry}
use Rattle.lab_file.specs.Lab.{LabData}
use Rattle.axlab_core.specs.declared.words.Form.{Form}
use Rattle.axlab_core.specs.declared.words.Form.TheVariants.{Lab}
use Rattle.axlab_core.specs.Input.{Call, Names, players, second_role}
use Rattle.axlab_core.specs.Loading.{Stop, file_source, lab_read}
use Rattle.axlab_core.specs.World.{World}

-- the file that a machine names
abbrev pub machine_file : Draft → List (List ℕ)
machine_file (Ready sheet) = []
machine_file (FromFile machine) = machine.file ∷ []

-- those of all machines, in the order of the entries
abbrev pub machine_files : List Entry → List (List ℕ)
machine_files [] = []
machine_files (entry ∷ rest) = machine_file entry.draft ++ machine_files rest

abbrev pub file_in : Option FileRole → List ℕ → List (List ℕ)
file_in None name = []
file_in (Some role) name = name ∷ []

-- the second file, where the command has one
abbrev pub second_file : Command → List ℕ → List (List ℕ)
second_file command name = file_in (second_role command) name

-- the files behind the lab file: none where that gives no lab
abbrev pub files_behind : Command → List ℕ → Result LabData Stop → List (List ℕ)
files_behind command second (Ok lab) = machine_files lab.entries ++ second_file command second
files_behind command second (Err stop) = []

-- all files of a call, where the lab file gives these bytes
abbrev pub files_of : Form → Names → List PlugNote → Option (List ℕ) → List (List ℕ)
files_of (Lab command) names notes found = names.lab ∷ files_behind command names.second (lab_read notes found)
files_of _ names notes found = []

-- names were asked for up to some place in a list
abbrev pub AskedFront : List (List ℕ) → List (List ℕ) → List (List ℕ) → Type 0
AskedFront names before now = (count : ℕ) × (now ≡ before ++ take count names)

-- the names of the files that were asked for are a front of the files of the words, where the read of the lab file gave some bytes
pub record AskedInOrder (form : Form) (names : Names) (notes : List PlugNote) (holding : Option Holding) (before now : List (List ℕ)) : Type 0 where
  pub given : List ℕ
  pub front : AskedFront (files_of form names notes (file_source holding given names.lab)) before now

-- what a call asked for
abbrev pub ReadsInOrder : Call → World → Type 0
ReadsInOrder call after = AskedInOrder call.form call.names (notes_of (players call)) call.before.holding call.before.asked after.asked

-- the lab file and the machine files, as far as they were asked for
pub record AskedLab (name : List ℕ) (notes : List PlugNote) (holding : Option Holding) (before now : List (List ℕ)) : Type 0 where
  pub given : List ℕ
  pub front : (command : Command) (second : List ℕ) → AskedFront (name ∷ files_behind command second (lab_read notes (file_source holding given name))) before now

-- all of them
pub record AskedWholeLab (name : List ℕ) (notes : List PlugNote) (holding : Option Holding) (before now : List (List ℕ)) : Type 0 where
  pub given : List ℕ
  pub lab : LabData
  pub read : lab_read notes (file_source holding given name) ≡ Ok lab
  pub all : now ≡ before ++ name ∷ machine_files lab.entries
