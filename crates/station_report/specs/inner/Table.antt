-- A writer of comma-separated values into memory, between two records.
use Rattle.std.specs.Prelude.{◌≡◌, ℕ, List, [], false, Option, Some, unwrap_or}
use Rattle.csv.specs.Writing.{text_written, writer_setup, fields_written, has_written, default_writer}
use Rattle.csv.specs.declared.writer.Writer.{Writer}

-- the text that was written so far
abbrev pub table_text : {W : Type 0} → (W → Option (List ℕ)) → Writer W → List ℕ
table_text contents writer = unwrap_or (text_written contents writer) []

-- The writer tells its text, has the settings of plain comma-separated values, and no record is begun.
pub record IsTable {W : Type 0} (contents : W → Option (List ℕ)) (writer : Writer W) : Type 0 where
  pub told : text_written contents writer ≡ Some (table_text contents writer)
  pub setup : writer_setup writer ≡ default_writer
  pub fields : fields_written writer ≡ 0
  pub clean : has_written writer ≡ false
