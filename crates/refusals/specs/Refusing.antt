-- Reading that stops at the first refusal.
use Rattle.std.specs.Prelude.{◌≡◌, Option, Some, None, Result, Ok, Err}
use Rattle.refusals.specs.declared.refusal.FileError.{FileError}
use Rattle.refusals.specs.declared.refusal.FileError.TheVariants.{Refused, NoMemory}
use Rattle.refusals.specs.declared.refusal.Refusal.{Refusal}

infixl 10 ◌>>=◌
-- goes on with what was read, or stays at the refusal
abbrev pub ◌>>=◌ : {A B : Type 0} → Result A Refusal → (A → Result B Refusal) → Result B Refusal
(Ok x) >>= next = next x
(Err refusal) >>= next = Err refusal

-- what is there, or else the refusal
abbrev pub or_refuse : {A : Type 0} → Refusal → Option A → Result A Refusal
or_refuse refusal None = Err refusal
or_refuse refusal (Some x) = Ok x

-- what was read, seen by a view
abbrev pub seen_by : {A B : Type 0} → (A → B) → Result A Refusal → Result B Refusal
seen_by view (Ok x) = Ok (view x)
seen_by view (Err refusal) = Err refusal

-- an error that is the refusal of the reading, or want of memory, which is tied to nothing
abbrev pub IsErrorOf : {B : Type 0} → Result B Refusal → FileError → Type 0
IsErrorOf reading NoMemory = Unit {0}
IsErrorOf reading (Refused refusal) = reading ≡ Err refusal

-- what a call answers, seen by a view, is what the reading gives, unless memory ran out
abbrev pub Gives : {A B : Type 0} → (A → B) → Result A FileError → Result B Refusal → Type 0
Gives view (Ok x) reading = reading ≡ Ok (view x)
Gives view (Err error) reading = IsErrorOf reading error
