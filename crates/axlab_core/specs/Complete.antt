-- When the program must answer, deny, refuse, or fail to read. Want of memory is always free.
use Rattle.std.specs.Prelude.{◌≡◌, ◌⊎◌, ℕ, [], Some, Result, Ok, Err}
use Rattle.lab_ports.specs.Causes.{Rose}
use Rattle.lab_ports.specs.Holding.{Holding}
use Rattle.refusals.specs.declared.refusal.Refusal.{Refusal}
use Rattle.axlab_core.specs.Input.{Call, Input, input_by}
use Rattle.axlab_core.specs.Loading.{Stop, Missing, Refuses}
use Rattle.axlab_core.specs.Outcome.{status_of}
use Rattle.axlab_core.specs.World.{World}
use Rattle.axlab_core.specs.declared.status.Status.{Status}
use Rattle.axlab_core.specs.declared.status.Status.TheVariants.{Answered, ReadFault, NoMemory}
use Rattle.axlab_core.specs.declared.words.Form.TheVariants.{Drill}

-- the library tells that it holds files by which the call comes to this answer
pub record Holds (call : Call) (answer : Result Input Stop) : Type 0 where
  pub files : Holding
  pub told : call.before.holding ≡ Some files
  pub is : input_by call (record { lab = []; machines = []; second = [] }) ≡ answer

-- it holds a lab, the files that its entries name, and the second file of the command, which no step of the order stops
abbrev pub HoldsInput : Call → Type 0
HoldsInput call = (input : Input) × Holds call (Ok input)

-- this status, or want of memory
abbrev pub IsStatusOrMemory : Status → Status → Type 0
IsStatusOrMemory wanted status = (status ≡ wanted) ⊎ (status ≡ NoMemory)

-- neither reads nor writes failed since
abbrev pub ReadsCalmly : Call → World → Type 0
ReadsCalmly call after = Rose call.before.read_faults after.read_faults → ⊥

abbrev pub WritesCalmly : Call → World → Type 0
WritesCalmly call after = Rose call.before.write_faults after.write_faults → ⊥

-- what is held is answered, unless memory or a port fails
abbrev pub MustAnswer : Call → World → Status → Type 0
MustAnswer call after status = HoldsInput call → ReadsCalmly call after → WritesCalmly call after → IsStatusOrMemory Answered status

-- what is held and stops the call gives the status of that stop, unless memory or the library fails
abbrev pub MustStop : Call → World → Status → Type 0
MustStop call after status = (stop : Stop) → Holds call (Err stop) → ReadsCalmly call after → IsStatusOrMemory (status_of stop) status

-- what is held and refused is refused so
abbrev pub MustRefuse : Call → World → Status → Type 0
MustRefuse call after status =
    (refusal : Refusal) → Holds call (Err (Refuses refusal)) → ReadsCalmly call after → IsStatusOrMemory (status_of (Refuses refusal)) status

-- a drill, which needs no files, is answered, unless memory or the output fails
abbrev pub MustDrill : Call → World → Status → Type 0
MustDrill call after status = (number : ℕ) → call.form ≡ Drill number → WritesCalmly call after → IsStatusOrMemory Answered status

-- a file that isn't held is missed, unless memory fails
abbrev pub MustMiss : Call → Status → Type 0
MustMiss call status = Holds call (Err Missing) → IsStatusOrMemory ReadFault status
