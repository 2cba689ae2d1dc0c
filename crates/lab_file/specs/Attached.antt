-- A lab whose machine files are read one by one.
use Rattle.std.specs.Prelude.{ℕ, ◌+◌, List, slice_set, Result, Ok}
use Rattle.refusals.specs.declared.refusal.Refusal.{Refusal}
use Rattle.refusals.specs.Refusing.{◌>>=◌}
use Rattle.strategy_file.specs.declared.draft.Draft.{Draft}
use Rattle.strategy_file.specs.declared.draft.Draft.TheVariants.{Ready, FromFile}
use Rattle.strategy_file.specs.CsvRows.{csv_sheet}
use Rattle.lab_file.specs.declared.lab.Entry.{Entry}
use Rattle.lab_file.specs.Lab.{LabData, entry_at}

-- the draft of the entry of this number with the bytes of its file; what needs no file stays
abbrev pub draft_with : ℕ → Draft → List ℕ → Result Draft Refusal
draft_with number (Ready sheet) bytes = Ok (Ready sheet)
draft_with number (FromFile machine) bytes = csv_sheet number machine bytes >>= λ sheet. Ok (Ready sheet)

abbrev pub set_draft : List Entry → ℕ → Draft → List Entry
set_draft entries place draft = slice_set entries place (record (entry_at entries place) { draft = draft })

-- the lab with the bytes of the file of the entry at a place, from 0
abbrev pub attached : LabData → ℕ → List ℕ → Result LabData Refusal
attached lab place bytes = draft_with (place + 1) (entry_at lab.entries place).draft bytes >>= λ draft. Ok (record lab { entries = set_draft lab.entries place draft })
