-- What errors tell.
use Rattle.std.specs.Prelude.{◌≡◌, Result, Err}
use Rattle.checkpoint.specs.declared.fault.Fault.{Fault}
use Rattle.checkpoint.specs.declared.fault.Fault.TheVariants as faults
use Rattle.checkpoint.specs.declared.fault.RotaError.{RotaError}
use Rattle.checkpoint.specs.declared.fault.RotaError.TheVariants as errors

-- the error that tells a fault
abbrev pub error_of : Fault → RotaError
error_of (faults.BadLine k) = errors.BadLine k
error_of (faults.WrongPair k) = errors.WrongPair k
error_of (faults.BadMark k) = errors.BadMark k

-- an error tells the fault that was found, or that memory ran out
abbrev pub Tells : {A : Type 0} → Result A Fault → RotaError → Type 0
Tells read (errors.BadLine k) = read ≡ Err (faults.BadLine k)
Tells read (errors.WrongPair k) = read ≡ Err (faults.WrongPair k)
Tells read (errors.BadMark k) = read ≡ Err (faults.BadMark k)
Tells read errors.NoMemory = Unit {0}
