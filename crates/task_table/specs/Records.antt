-- The records of a table: the rows of a sheet.
use Rattle.std.specs.Prelude.{ℕ, ◌&&◌, Bool, not, bytes_eq, cond, codes, nat_lt, List, [], length, drop, map, filter}
use Rattle.std.specs.Prelude.{slice_index_or, Option, Some, None}
use Rattle.std.specs.List.{list_any}
use Rattle.csv.specs.Reading.{records, default_config, strip_bom}
use Rattle.task_table.specs.Marks.{lowered}

-- a record: its fields
abbrev pub Fields : Type 0
Fields = List (List ℕ)

-- the records of a text with this mark between fields and with double quotes, behind a byte-order mark where it has one
abbrev pub table_records : ℕ → List ℕ → List Fields
table_records mark bytes = records (record default_config { delimiter = mark }) (strip_bom bytes)

-- a field; one that the record lacks is empty
abbrev pub field : Fields → ℕ → List ℕ
field r k = slice_index_or r k []

-- a record says something: one of its fields isn't empty
abbrev pub says : Fields → Bool
says r = list_any (λ f. nat_lt 0 (length f)) r

-- a field is this word, whatever the case of its letters A to Z
abbrev pub is_word : List ℕ → List ℕ → Bool
is_word word f = bytes_eq (lowered f) word

-- How many columns a table has, where its first record is a heading: the words `task`, `time` and `after`, with or
-- without `apart`, and then empty fields alone.
abbrev pub columns_of : Fields → Option ℕ
columns_of r =
    cond (is_word (codes "task") (field r 0) && (is_word (codes "time") (field r 1)
    && is_word (codes "after") (field r 2)))
    (cond (is_word (codes "apart") (field r 3) && not (says (drop 4 r))) (Some 4)
    (cond (not (says (drop 3 r))) (Some 3) None))
    None

-- the record at a place, counted from 0
abbrev pub record_at : List Fields → ℕ → Fields
record_at records p = slice_index_or records p []

-- the records behind the heading
abbrev pub behind : List Fields → List Fields
behind records = drop 1 records

-- the names that records give, in their order
abbrev pub names_in : List Fields → List (List ℕ)
names_in rest = map (λ r. field r 0) (filter says rest)
