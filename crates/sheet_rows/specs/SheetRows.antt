-- Records as comma-separated values, or with another mark between their fields.
use Rattle.std.specs.Prelude.{◌≡◌, ℕ, List, [], ◌∷◌, ◌++◌, map}
use Rattle.std.specs.List.{flat_map}
use Rattle.csv.specs.Reading.{records, default_config}
use Rattle.csv.specs.Writing.{default_writer, read_back, row_text}
use Rattle.csv.specs.declared.writer.WriterBuilder.{WriterBuilder}

-- how records are written with a mark between their fields
abbrev pub written_with : ℕ → WriterBuilder
written_with mark = record default_writer { delimiter = mark }

-- the text of records: a field stands in double quotes exactly where it has the mark, a double quote, CR or LF, and a
-- double quote in it is doubled; each record ends with LF; two double quotes stand for a record of one empty field
abbrev pub rows_text : ℕ → List (List (List ℕ)) → List ℕ
rows_text mark rows = flat_map (row_text (written_with mark)) rows

-- a text that is being written: the mark between fields, and what stands there so far
pub record Sheet : Type 0 where
  pub mark : ℕ
  pub text : List ℕ

-- the text with a record behind it, and with records behind it
abbrev pub with_row : Sheet → List (List ℕ) → Sheet
with_row sheet row = record sheet { text = sheet.text ++ row_text (written_with sheet.mark) row }

abbrev pub with_rows : Sheet → List (List (List ℕ)) → Sheet
with_rows sheet [] = sheet
with_rows sheet (row ∷ rows) = with_rows (with_row sheet row) rows

-- Records with commas between their fields are read again as they were; one without fields is read as one empty field.
abbrev pub EverySheetIsRead : Type 0
EverySheetIsRead = (rows : List (List (List ℕ))) → records default_config (rows_text 44 rows) ≡ map read_back rows
