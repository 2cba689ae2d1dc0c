-- How the sending of a text ends before its end.
use Rattle.std.specs.Prelude.{ℕ, List, Option}
use Rattle.lab_ports.specs.Holding.{GrewByPart}
use Rattle.axlab_core.specs.declared.sending.SendError.{SendError}
use Rattle.axlab_core.specs.declared.sending.SendError.TheVariants.{Failed, NoMemory}
use Rattle.axlab_core.specs.Output.{GrewByFront}

-- the sink failed, and took a part that isn't all; or memory was wanted, and it took a front part
abbrev pub Stopped : SendError → Option (List ℕ) → Option (List ℕ) → List ℕ → Type 0 → Type 0
Stopped Failed before now text rose = GrewByPart before now text × rose
Stopped NoMemory before now text rose = GrewByFront before now text
