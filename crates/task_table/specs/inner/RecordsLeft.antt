-- The records that a reader has left.
use Rattle.std.specs.Prelude.{◌≡◌, ℕ, ◌+◌, Bool, true, false, List, [], ◌∷◌, length, Option, Some, unwrap_or}
use Rattle.std.specs.Borrow.{Bor}
use Rattle.csv.specs.Machine.{ends_at_end}
use Rattle.csv.specs.Reading.{records_from, default_config, Ready, source_of}
use Rattle.csv.specs.declared.parser.Config.{Config}
use Rattle.csv.specs.declared.parser.State.{State}
use Rattle.csv.specs.declared.reader.Reader.{Reader}
use Rattle.csv.specs.declared.reader.Trim.TheVariants as trim
use Rattle.task_table.specs.Records.{Fields}

-- how a reader reads with this mark between fields
abbrev pub marked : ℕ → Config
marked mark = record default_config { delimiter = mark }

-- the records from a state of the machine on
abbrev pub records_behind : Config → State → List ℕ → List Fields
records_behind config state bytes = records_from config (length bytes + 1) state bytes

-- the bytes that a reader of a text in memory has left, where it hasn't failed
abbrev pub known_left : Reader (Bor (List ℕ)) → Option (List ℕ)
known_left reader = source_of (λ s. Some s.now) reader

abbrev pub left_of : Reader (Bor (List ℕ)) → List ℕ
left_of reader = unwrap_or (known_left reader) []

-- the records that it has left
abbrev pub records_of : Reader (Bor (List ℕ)) → List Fields
records_of reader = records_behind reader.config reader.state (left_of reader)

-- A reader of a text in memory stands between two records. It takes records of any length, and no record of names.
pub record IsReading (reader : Reader (Bor (List ℕ))) : Type 0 where
  pub config : reader.config ≡ marked reader.config.delimiter
  pub trim : reader.trim ≡ trim.None
  pub flexible : reader.flexible ≡ true
  pub ready : Ready reader
  pub begins : ends_at_end reader.state ≡ false
  pub source : known_left reader ≡ Some (left_of reader)

-- What a read does, seen by the records that were left: it takes the first, or there was none.
abbrev pub TakesRecord : List Fields → Reader (Bor (List ℕ)) → Bool → Fields → Type 0
TakesRecord old reader false fields = old ≡ []
TakesRecord old reader true fields = IsReading reader × (old ≡ fields ∷ records_of reader)
