-- Entries whose sheets are there.
use Rattle.strategy_file.specs.declared.draft.Draft.{Draft}
use Rattle.strategy_file.specs.declared.draft.Draft.TheVariants.{Ready, FromFile}
use Rattle.lab_file.specs.declared.lab.Entry.{Entry}

-- an entry whose sheet is there
abbrev pub IsReadyDraft : Draft → Type 0
IsReadyDraft (Ready sheet) = Unit {0}
IsReadyDraft (FromFile machine) = ⊥

abbrev pub IsReadyEntry : Entry → Type 0
IsReadyEntry entry = IsReadyDraft entry.draft
