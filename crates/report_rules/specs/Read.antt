-- What reading a report answers.
use Rattle.std.specs.Prelude.{ℕ, ◌≡◌, List, Result, Ok, Err}
use Rattle.texts.specs.Grammar.{IsFirstBad}
use Rattle.report_rules.specs.declared.reading.ReportError.{ReportError}
use Rattle.report_rules.specs.declared.reading.ReportError.TheVariants as errors
use Rattle.report_rules.specs.declared.report.Report.{Report}
use Rattle.report_rules.specs.declared.state.State.{State}
use Rattle.report_rules.specs.declared.state.State.TheVariants as states
use Rattle.report_rules.specs.Grammar.{grammar}
use Rattle.report_rules.specs.Valid.{head_of}

-- the line of this number is the first that isn't one that may follow those before it
abbrev pub IsBadLine : List ℕ → ℕ → Type 0
IsBadLine bytes number = IsFirstBad grammar states.Start bytes number

-- this report is answered, unless memory ran out
abbrev pub Gives : Result Report ReportError → Report → Type 0
Gives (Ok found) report = found ≡ report
Gives (Err (errors.BadLine line)) report = ⊥
Gives (Err errors.NoMemory) report = Unit {0}

-- this line is refused, unless memory ran out
abbrev pub Refuses : Result Report ReportError → ℕ → Type 0
Refuses (Ok found) number = ⊥
Refuses (Err (errors.BadLine line)) number = line ≡ number
Refuses (Err errors.NoMemory) number = Unit {0}

-- what is so of the line that is refused
abbrev pub IfBad : Result Report ReportError → (ℕ → Type 0) → Type 0
IfBad (Ok found) Is = Unit {0}
IfBad (Err (errors.BadLine line)) Is = Is line
IfBad (Err errors.NoMemory) Is = Unit {0}

-- what all lines of a report lead to
abbrev pub whole : Report → State
whole report = states.Ended (head_of report) report.noises report.names report.body

-- what reading one line after the other answers
abbrev pub Reading : Result Report ReportError → Result State ℕ → Type 0
Reading (Ok found) read = read ≡ Ok (whole found)
Reading (Err (errors.BadLine line)) read = read ≡ Err line
Reading (Err errors.NoMemory) read = Unit {0}
