-- Steps of which each may find a fault.
use Rattle.std.specs.Prelude.{Bool, Option, Some, None, Result, Ok, Err, if◌then◌else◌}
use Rattle.checkpoint.specs.declared.fault.Fault.{Fault}

-- a step, and then another where it finds no fault
infixl 10 ◌>>=◌
abbrev pub ◌>>=◌ : {A B : Type 0} → Result A Fault → (A → Result B Fault) → Result B Fault
(Ok x) >>= f = f x
(Err fault) >>= f = Err fault

-- what was found, and else a fault
abbrev pub found : {A : Type 0} → Fault → Option A → Result A Fault
found fault (Some x) = Ok x
found fault None = Err fault

-- what stands where a test holds, and else a fault
abbrev pub checked : {A : Type 0} → Fault → Bool → A → Result A Fault
checked fault test x = if test then Ok x else Err fault
