-- What the work of a command gives, and how it is sent.
use Rattle.std.specs.Prelude.{◌≡◌, ℕ, List, take, Option, Result, Ok, Err}
use Rattle.lab_ports.specs.Holding.{Grew, GrewByPart}
use Rattle.report_rules.specs.Text.{report_text}
use Rattle.report_rules.specs.Valid.{IsValid}
use Rattle.axlab_core.specs.declared.output.Output.{Output}
use Rattle.axlab_core.specs.declared.output.Output.TheVariants.{Report, Whole}
use Rattle.axlab_core.specs.declared.output.Hindrance.{Hindrance}
use Rattle.axlab_core.specs.declared.output.Hindrance.TheVariants as hindrances
use Rattle.axlab_core.specs.declared.status.Status.{Status}
use Rattle.axlab_core.specs.declared.status.Status.TheVariants.{Answered, Denied, WriteFault, NoMemory}

abbrev pub output_text : Output → List ℕ
output_text (Report report) = report_text report
output_text (Whole bytes) = bytes.items

-- it has a text that can be sent
abbrev pub IsSendable : Output → Type 0
IsSendable (Report report) = IsValid report
IsSendable (Whole bytes) = Unit {0}

-- the content grew by a front part of the text, or by all of it
abbrev pub GrewByFront : Option (List ℕ) → Option (List ℕ) → List ℕ → Type 0
GrewByFront before now text = (n : ℕ) × Grew before now (take n text)

-- how the sending of a text ends
abbrev pub Sends : List ℕ → Option (List ℕ) → Option (List ℕ) → Type 0 → Status → Type 0
Sends text before now rose Answered = Grew before now text
Sends text before now rose WriteFault = GrewByPart before now text × rose
Sends text before now rose NoMemory = GrewByFront before now text
Sends text before now rose _ = ⊥

-- how a call ends behind the work of its command
abbrev pub Delivers : Result Output Hindrance → Option (List ℕ) → Option (List ℕ) → Type 0 → Status → Type 0
Delivers (Ok output) before now rose status = Sends (output_text output) before now rose status
Delivers (Err (hindrances.Denied line)) before now rose status = (status ≡ Denied line) × (now ≡ before)
Delivers (Err hindrances.NoMemory) before now rose status = (status ≡ NoMemory) × (now ≡ before)
