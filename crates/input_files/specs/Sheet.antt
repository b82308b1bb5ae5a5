-- What is known of the sheet that a file says, beside its line and its cycle time.
use Rattle.std.specs.Prelude.{◌≡◌, ◌↔◌, ℕ, Bool, false, List, [], Option, Some, None, unwrap_or}
use Rattle.line_instance.specs.Line.{Apart, tasks}
use Rattle.line_instance.specs.Walks.{ArePairs, IsGiven}
use Rattle.task_names.specs.Naming.{FitTasks, naming_by}
use Rattle.task_table.specs.Marks.{has_bom, table_mark}
use Rattle.task_table.specs.Tables.{names_of}
use Rattle.input_files.specs.InputFile.{Reads, max_file}
use Rattle.input_files.specs.Instance.{IsPairedAt, naming_in}
use Rattle.input_files.specs.declared.instance.Listed.{Listed}
use Rattle.input_files.specs.declared.sheets.Sheet.{Sheet}

-- the mark between the fields of a table; a comma for other files
abbrev pub mark_of : List ℕ → ℕ
mark_of bytes = unwrap_or (table_mark bytes) 44

-- whether the file is a table behind a byte-order mark
abbrev pub marks_order : Option ℕ → List ℕ → Bool
marks_order None bytes = false
marks_order (Some mark) bytes = has_bom bytes

abbrev pub is_marked : List ℕ → Bool
is_marked bytes = marks_order (table_mark bytes) bytes

-- where there is no record with tasks that are apart, none are listed
abbrev pub AreListedAt : Option ℕ → List ℕ → Type 0
AreListedAt None bytes = Unit {0}
AreListedAt (Some number) bytes = IsPairedAt bytes number

-- What is true of each sheet: its names fit its tasks; its pairs are of two tasks, and are those of its line; and where
-- no record lists one there is none.
pub record IsRightSheet (s : Sheet) : Type 0 where
  pub names : FitTasks s.naming (tasks s.inst)
  pub pairs : ArePairs (tasks s.inst) s.pairs.items
  pub apart : (i j : ℕ) → Apart s.inst i j ↔ IsGiven s.pairs.items i j
  pub none : s.pairs_at ≡ None → s.pairs.items ≡ []

-- What the bytes say beside: what the tasks are called, the mark between fields, whether a byte-order mark stands
-- before it, and the first record that lists tasks that are apart.
pub record IsSheetIn (bytes : List ℕ) (s : Sheet) : Type 0 where
  pub naming : s.naming ≡ naming_by (names_of bytes)
  pub mark : s.mark ≡ mark_of bytes
  pub bom : s.bom ≡ is_marked bytes
  pub listed : AreListedAt s.pairs_at bytes

-- the mark of a file, and whether a byte-order mark stands before it
abbrev pub mark_in : Option (List ℕ) → ℕ
mark_in None = 44
mark_in (Some bytes) = mark_of bytes

abbrev pub is_marked_in : Option (List ℕ) → Bool
is_marked_in None = false
is_marked_in (Some bytes) = is_marked bytes

-- The same of a file: it is there, and its bytes say so.
pub record IsSheetFrom (file : Option (List ℕ)) (s : Sheet) : Type 0 where
  pub naming : s.naming ≡ naming_in file
  pub mark : s.mark ≡ mark_in file
  pub bom : s.bom ≡ is_marked_in file
  pub listed : Reads max_file file (AreListedAt s.pairs_at)

-- a line has the naming, the mark and the byte-order mark of its file
pub record IsListedFrom (file : Option (List ℕ)) (l : Listed) : Type 0 where
  pub naming : l.naming ≡ naming_in file
  pub mark : l.mark ≡ mark_in file
  pub bom : l.bom ≡ is_marked_in file
