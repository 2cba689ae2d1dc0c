-- What a reader of a machine's file has yet to give.
use Rattle.std.specs.Prelude.{◌≡◌, ℕ, ◌+◌, true, false, List, [], length, Some, unwrap_or}
use denote.Ref.{Bor}
use Rattle.csv.specs.Machine.{ends_at_end}
use Rattle.csv.specs.Reading.{Ready, default_config, is_flexible, reader_config, reader_state, reader_trim, records_from, source_of}
use Rattle.csv.specs.declared.reader.Reader.{Reader}
use Rattle.csv.specs.declared.reader.Trim.TheVariants.{None}

-- the bytes that are left
abbrev pub bytes_left : Reader (Bor (List ℕ)) → List ℕ
bytes_left reader = unwrap_or (source_of (λ bytes. Some bytes.now) reader) []

-- and the records in them
abbrev pub records_left : Reader (Bor (List ℕ)) → List (List (List ℕ))
records_left reader = records_from default_config (length (bytes_left reader) + 1) (reader_state reader) (bytes_left reader)

-- it reads by csv's defaults, takes records of any length, and stands between two
pub record IsReading (reader : Reader (Bor (List ℕ))) : Type 0 where
  pub config : reader_config reader ≡ default_config
  pub flexible : is_flexible reader ≡ true
  pub untrimmed : reader_trim reader ≡ None
  pub ready : Ready reader
  pub between : ends_at_end (reader_state reader) ≡ false
  pub known : source_of (λ bytes. Some bytes.now) reader ≡ Some (bytes_left reader)
