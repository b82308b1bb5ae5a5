-- A writer of records into memory, between two of them.
use Rattle.std.specs.Prelude.{◌≡◌, ℕ, List, [], Bool, false, Option, Some, unwrap_or}
use Rattle.csv.specs.Writing.{text_written, writer_setup, fields_written, has_written}
use Rattle.csv.specs.declared.writer.Writer.{Writer}
use Rattle.sheet_rows.specs.SheetRows.{written_with}

-- the text that was written so far
abbrev pub sheet_text : {W : Type 0} → (W → Option (List ℕ)) → Writer W → List ℕ
sheet_text contents writer = unwrap_or (text_written contents writer) []

-- The writer tells its text, writes with the mark, and no record is begun.
pub record IsSheet {W : Type 0} (contents : W → Option (List ℕ)) (mark : ℕ) (writer : Writer W) : Type 0 where
  pub told : text_written contents writer ≡ Some (sheet_text contents writer)
  pub setup : writer_setup writer ≡ written_with mark
  pub fields : fields_written writer ≡ 0
  pub clean : has_written writer ≡ false

-- this is so unless a record failed
abbrev pub IsSheetUnless : {W : Type 0} → Bool → (W → Option (List ℕ)) → ℕ → Writer W → Type 0
IsSheetUnless failed contents mark writer = failed ≡ false → IsSheet contents mark writer
