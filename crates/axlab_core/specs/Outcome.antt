-- The number of a status, how a call may end, and facts for one status.
use Rattle.std.specs.Prelude.{◌≡◌, ◌⊎◌, ℕ, true, List, Option, Ok, Err}
use Rattle.lab_ports.specs.Causes.{Rose}
use Rattle.lab_ports.specs.Holding.{Grew, GrewByPart}
use Rattle.axlab_core.specs.declared.words.Form.{Form}
use Rattle.axlab_core.specs.declared.words.Form.TheVariants.{Lab, Drill, Unbuilt, Faulty}
use Rattle.player_core.specs.Bench.{SameTurns}
use Rattle.axlab_core.specs.Bounded.{IsBounded}
use Rattle.axlab_core.specs.Files.{ReadsInOrder}
use Rattle.axlab_core.specs.Input.{Call, Comes, Finds, Input}
use Rattle.axlab_core.specs.Loading.{Stop, Unlisted, Missing, Refuses, Denies, IsTold}
use Rattle.axlab_core.specs.Output.{GrewByFront}
use Rattle.axlab_core.specs.Right.{IsServed}
use Rattle.axlab_core.specs.Words.{needs_lab}
use Rattle.axlab_core.specs.World.{World}
use Rattle.axlab_core.specs.declared.status.Status.{Status}
use Rattle.axlab_core.specs.declared.status.Status.TheVariants.{Answered, Denied, Usage, ReadFault, Refused, WriteFault, NoMemory}
use Rattle.refusals.specs.declared.refusal.Refusal.{Refusal}

abbrev pub number_of : Status → ℕ
number_of Answered = 0
number_of (Denied line) = 1
number_of Usage = 2
number_of ReadFault = 3
number_of (Refused refusal) = 4
number_of WriteFault = 5
number_of NoMemory = 6

abbrev pub OnAnswered : Status → Type 0 → Type 0
OnAnswered Answered p = p
OnAnswered _ p = Unit {0}

abbrev pub OnReadFault : Status → Type 0 → Type 0
OnReadFault ReadFault p = p
OnReadFault _ p = Unit {0}

abbrev pub OnWriteFault : Status → Type 0 → Type 0
OnWriteFault WriteFault p = p
OnWriteFault _ p = Unit {0}

abbrev pub IfRefused : Status → (Refusal → Type 0) → Type 0
IfRefused (Refused refusal) p = p refusal
IfRefused _ p = Unit {0}

abbrev pub IfDenied : Status → (ℕ → Type 0) → Type 0
IfDenied (Denied line) p = p line
IfDenied _ p = Unit {0}

abbrev pub OnNoMemory : Status → Type 0 → Type 0
OnNoMemory NoMemory p = p
OnNoMemory _ p = Unit {0}

-- every status but Answered, WriteFault and NoMemory
abbrev pub OnUnwritten : Status → Type 0 → Type 0
OnUnwritten Answered p = Unit {0}
OnUnwritten WriteFault p = Unit {0}
OnUnwritten NoMemory p = Unit {0}
OnUnwritten _ p = p

-- every status but Answered
abbrev pub OnOther : Status → Type 0 → Type 0
OnOther Answered p = Unit {0}
OnOther _ p = p

-- ---- how a call may end

-- there is work behind the words
abbrev pub IsWork : Form → Type 0
IsWork (Lab command) = Unit {0}
IsWork (Drill number) = Unit {0}
IsWork Unbuilt = ⊥
IsWork Faulty = ⊥

-- the output took all, a part, or a front part of a right text, for which the players were asked
pub record Wrote (call : Call) (after : World) (Took : Option (List ℕ) → Option (List ℕ) → List ℕ → Type 0) : Type 0 where
  pub input : Input
  pub found : Finds call input
  pub comes : Comes call (Ok input)
  pub text : List ℕ
  pub served : IsServed call.form call.before.bench after.bench input text
  pub took : Took call.before.taken after.taken text

-- the output took nothing, and nobody was advanced
pub record IsUntouched (call : Call) (after : World) : Type 0 where
  pub taken : after.taken ≡ call.before.taken
  pub turns : SameTurns call.before.bench after.bench

-- the output took nothing, and nobody was advanced more often than the work of the call allows
pub record IsUnwritten (call : Call) (after : World) : Type 0 where
  pub taken : after.taken ≡ call.before.taken
  pub bounded : IsBounded call after

-- the words want files, and the library failed, or it tells what it holds and the next file isn't there
abbrev pub IsUnread : Call → World → Type 0
IsUnread call after =
    (needs_lab call.form ≡ true) × (Rose call.before.read_faults after.read_faults ⊎ (IsTold call.before.holding × Comes call (Err Missing)))

-- memory is wanted only where there is work, and then the output took nothing, or a front part of a right text
abbrev pub LeftOff : Call → World → Type 0
LeftOff call after = IsWork call.form × (IsUnwritten call after ⊎ Wrote call after GrewByFront)

-- how a call may end, by status
abbrev pub EndsBy : Call → World → Status → Type 0
EndsBy call after Answered = Wrote call after Grew
EndsBy call after (Denied line) = Comes call (Err (Denies line)) × IsUnwritten call after
EndsBy call after Usage = (call.form ≡ Faulty) × IsUntouched call after
EndsBy call after ReadFault = IsUnread call after × IsUntouched call after
EndsBy call after (Refused refusal) = Comes call (Err (Refuses refusal)) × IsUntouched call after
EndsBy call after WriteFault = Wrote call after GrewByPart × Rose call.before.write_faults after.write_faults
EndsBy call after NoMemory = LeftOff call after

-- and whatever the status, files were read in their order
pub record Ends (call : Call) (after : World) (status : Status) : Type 0 where
  pub by : EndsBy call after status
  pub reads : ReadsInOrder call after

-- the status by which a call ends that stops so
abbrev pub status_of : Stop → Status
status_of Unlisted = Usage
status_of Missing = ReadFault
status_of (Refuses refusal) = Refused refusal
status_of (Denies line) = Denied line
