-- What a command works on, and the one order in which a call comes to it.
use Rattle.std.specs.Prelude.{◌≡◌, ℕ, nat_lt, List, length, Option, Some, None, Result, Ok, Err, if◌then◌else◌}
use Rattle.player_core.specs.State.{Lasting, players_of}
use Rattle.player_core.specs.declared.bench.PlugNote.{PlugNote}
use Rattle.player_core.specs.Bench.{notes_of}
use Rattle.refusals.specs.declared.refusal.FileRole.{FileRole}
use Rattle.refusals.specs.declared.refusal.FileRole.TheVariants.{Rows, Cert}
use Rattle.refusals.specs.declared.refusal.Refusal.{Refusal}
use Rattle.refusals.specs.declared.refusal.Refusal.TheVariants.{TooLong, NotBuilt}
use Rattle.lab_ports.specs.Holding.{Holding}
use Rattle.lab_file.specs.declared.command.Command.{Command}
use Rattle.lab_file.specs.declared.command.Command.TheVariants as commands
use Rattle.lab_file.specs.Lab.{LabData}
use Rattle.lab_file.specs.LabOf.{longest_file}
use Rattle.axlab_core.specs.declared.second.Second.{Second}
use Rattle.axlab_core.specs.declared.second.Second.TheVariants.{Alone, Bytes}
use Rattle.axlab_core.specs.declared.words.Form.{Form}
use Rattle.axlab_core.specs.declared.words.Form.TheVariants.{Lab, Drill, Unbuilt, Faulty}
use Rattle.axlab_core.specs.Loading.{Stop, Unlisted, Refuses, ◌>>=◌, or_missing, or_stop, lab_for, file_source, part_source, machine_source}
use Rattle.axlab_core.specs.Words.{form_of, lab_name, second_name}
use Rattle.axlab_core.specs.World.{World}

-- what a command works on: a lab with what the second file gives, or its words alone
pub data Input : Type 0 where
  OfLab : LabData → Second → Input
  OfWords : Input

-- ---- where bytes come from

-- the names of the files that the words name
pub record Names : Type 0 where
  pub lab : List ℕ
  pub second : List ℕ

-- the bytes that reads gave: of the lab, of each machine by place, of the second file
pub record Given : Type 0 where
  pub lab : List ℕ
  pub machines : List (List ℕ)
  pub second : List ℕ

-- the bytes of the lab, of a machine by place and name, and of the second file up to a limit
pub record Sources : Type 0 where
  pub lab : Option (List ℕ)
  pub machines : ℕ → List ℕ → Option (List ℕ)
  pub second : ℕ → Option (List ℕ)

-- each file is what the library holds, where it tells it; else what the read gave
abbrev pub sources : Names → Option Holding → Given → Sources
sources names holding given = record {
  lab = file_source holding given.lab names.lab;
  machines = machine_source holding given.machines;
  second = λ limit. part_source limit holding given.second names.second;
}

-- ---- the second file

-- what the second file of a command is, where its words name one: `resume LAB ROWS`, `check LAB CERT`
abbrev pub second_role : Command → Option FileRole
second_role commands.Resume = Some Rows
second_role commands.Check = Some Cert
second_role _ = None

-- a certificate has at most 16 MiB, any other file 1 MiB
abbrev pub longest : FileRole → ℕ
longest Cert = 16777216
longest _ = longest_file

-- the bytes, where there aren't too many
abbrev pub second_of : FileRole → List ℕ → Result Second Refusal
second_of role bytes = if nat_lt (longest role) (length bytes) then Err (TooLong role) else Ok (Bytes bytes)

abbrev pub second_read : Option FileRole → (ℕ → Option (List ℕ)) → Result Second Stop
second_read None source = Ok Alone
second_read (Some role) source = or_missing (source (longest role)) >>= λ bytes. or_stop (second_of role bytes)

-- what the second file of a command gives
abbrev pub second_for : Command → (ℕ → Option (List ℕ)) → Result Second Stop
second_for command source = second_read (second_role command) source

-- ---- the order

-- the files of a command: those of the lab, the limits of its job, and the second file
abbrev pub loaded_for : Command → List PlugNote → Sources → Result Input Stop
loaded_for command notes sources = do
  lab ← lab_for command notes sources.lab sources.machines
  second ← second_for command sources.second
  Ok (OfLab lab second)

-- what the words and the files of a call give
abbrev pub found_for : Form → List PlugNote → Sources → Result Input Stop
found_for (Lab command) notes sources = loaded_for command notes sources
found_for (Drill number) notes sources = Ok OfWords
found_for Unbuilt notes sources = Err (Refuses NotBuilt)
found_for Faulty notes sources = Err Unlisted

-- the input again where it passes the tests of its command, or the first line that is denied; so far no command tests
abbrev pub tested : Form → List Lasting → Input → Result Input Stop
tested _ players input = Ok input

-- the whole order: the words, the files, the tests
abbrev pub input_for : Form → List Lasting → Sources → Result Input Stop
input_for form players sources = found_for form (notes_of players) sources >>= λ input. tested form players input

-- ---- a call

-- what a call is given: its words, and the world as it stands
pub record Call : Type 0 where
  pub form : Form
  pub names : Names
  pub before : World

abbrev pub call_of : List (List ℕ) → World → Call
call_of words before = record {
  form = form_of words;
  names = record { lab = lab_name words; second = second_name words };
  before = before;
}

-- the players that the call finds on the bench
abbrev pub players : Call → List Lasting
players call = players_of call.before.bench

abbrev pub found_by : Call → Given → Result Input Stop
found_by call given = found_for call.form (notes_of (players call)) (sources call.names call.before.holding given)

abbrev pub input_by : Call → Given → Result Input Stop
input_by call given = input_for call.form (players call) (sources call.names call.before.holding given)

-- its words and files give this input, by what the library holds, where it tells it; else by some bytes that the reads gave
pub record Finds (call : Call) (input : Input) : Type 0 where
  pub given : Given
  pub is : found_by call given ≡ Ok input

-- the call comes to this answer, by what the library holds, where it tells it; else by some bytes that the reads gave
pub record Comes (call : Call) (answer : Result Input Stop) : Type 0 where
  pub given : Given
  pub is : input_by call given ≡ answer
