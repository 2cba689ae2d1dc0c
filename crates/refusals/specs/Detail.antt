-- The line that tells a refusal.
use Rattle.std.specs.Prelude.{ℕ, ◌==◌, List, [], ◌++◌, codes, decimal, if◌then◌else◌}
use Rattle.refusals.specs.declared.place.Place.{Place}
use Rattle.refusals.specs.declared.refusal.FileRole.{FileRole}
use Rattle.refusals.specs.declared.refusal.FileRole.TheVariants.{Lab, Machine, Rows, Cert}
use Rattle.refusals.specs.declared.refusal.RowCause.{RowCause}
use Rattle.refusals.specs.declared.refusal.RowCause.TheVariants.{BadLine, WrongPair, BadMark}
use Rattle.refusals.specs.declared.refusal.Refusal.{Refusal}
use Rattle.refusals.specs.declared.refusal.Refusal.TheVariants.{TooLong, Syntax, Version, MissingKey, WrongType, OutOfRange, BadName, DoubledName, UnknownKind, BadRows, UnknownPlug, TooManyRows, NoJob, UnknownEntry, TooManyTurns, TooMuchWork, NotSure, NoFitness, BadBoard, DoubledEdge, BadCheckpoint, BadCertificate, NotBuilt, NotVector}
use Rattle.refusals.specs.KeyWord.{key_word}
use Rattle.refusals.specs.Refusal.{number_of, name_of}
use Rattle.refusals.specs.TableWord.{table_word}

-- which file it is
abbrev pub role_detail : FileRole → List ℕ
role_detail Lab = codes " lab"
role_detail (Machine entry) = codes " machine " ++ decimal entry
role_detail Rows = codes " rows"
role_detail Cert = codes " certificate"

-- the number of an entry; nothing for 0, which stands for no entry
abbrev pub entry_number : ℕ → List ℕ
entry_number entry = if entry == 0 then [] else codes " " ++ decimal entry

-- a table, the entry's number and the key
abbrev pub place_detail : Place → List ℕ
place_detail place = codes " " ++ (table_word place.table ++ (entry_number place.entry ++ (codes " " ++ key_word place.key)))

abbrev pub entry_detail : ℕ → List ℕ
entry_detail entry = codes " entry " ++ decimal entry

abbrev pub cause_name : RowCause → List ℕ
cause_name BadLine = codes "BadLine"
cause_name WrongPair = codes "WrongPair"
cause_name BadMark = codes "BadMark"

abbrev pub row_detail : ℕ → ℕ → List ℕ
row_detail entry row = codes " entry " ++ (decimal entry ++ (codes " row " ++ decimal row))

-- a line of a checkpoint, and what is wrong with it
abbrev pub line_detail : ℕ → RowCause → List ℕ
line_detail line cause = codes " line " ++ (decimal line ++ (codes " " ++ cause_name cause))

-- where the refused thing stands, with the space before it
abbrev pub detail_of : Refusal → List ℕ
detail_of (TooLong role) = role_detail role
detail_of Syntax = []
detail_of Version = []
detail_of (MissingKey place) = place_detail place
detail_of (WrongType place) = place_detail place
detail_of (OutOfRange place) = place_detail place
detail_of (BadName entry) = entry_detail entry
detail_of (DoubledName entry) = entry_detail entry
detail_of (UnknownKind entry) = entry_detail entry
detail_of (BadRows entry row) = row_detail entry row
detail_of (UnknownPlug entry) = entry_detail entry
detail_of (TooManyRows entry) = entry_detail entry
detail_of NoJob = []
detail_of (UnknownEntry place) = place_detail place
detail_of TooManyTurns = []
detail_of TooMuchWork = []
detail_of (NotSure entry) = entry_detail entry
detail_of NoFitness = []
detail_of BadBoard = []
detail_of (DoubledEdge edge) = codes " edge " ++ decimal edge
detail_of (BadCheckpoint line cause) = line_detail line cause
detail_of (BadCertificate line) = codes " line " ++ decimal line
detail_of NotBuilt = []
detail_of (NotVector entry) = entry_detail entry

-- the whole line
abbrev pub refusal_text : Refusal → List ℕ
refusal_text refusal = codes "axlab: refused " ++ (decimal (number_of refusal) ++ (codes " " ++ (name_of refusal ++ (detail_of refusal ++ codes "\n"))))
