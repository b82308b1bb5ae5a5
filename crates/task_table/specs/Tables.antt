-- What a table says, and what reading one answers.
use Rattle.std.specs.Prelude.{◌≡◌, ◌↔◌, ℕ, true, List, Option, length, map, filter, option_map}
use Rattle.line_io.specs.Lines.{value_of}
use Rattle.line_instance.specs.Line.{Line, Apart, tasks}
use Rattle.line_instance.specs.Made.{IsInstanceOf}
use Rattle.line_instance.specs.Walks.{ArePairs, IsGiven}
use Rattle.task_names.specs.TaskNames.{AreDistinct}
use Rattle.task_table.specs.Marks.{has_bom, is_mark, table_mark}
use Rattle.task_table.specs.Records.{Fields, field, says, behind, names_in, table_records}
use Rattle.task_table.specs.Lists.{members_in, arcs_of, pairs_of, first_pair}
use Rattle.task_table.specs.Rows.{AreKnown}
use Rattle.task_table.specs.Faults.{AreTasks, IsFirstFault}
use Rattle.task_table.specs.declared.table.TableRead.{TableRead}
use Rattle.task_table.specs.declared.table.TableRead.TheVariants.{Good, Fault, NoMemory}
use Rattle.task_table.specs.declared.table.Table.{Table}

-- the times that records give, in their order
abbrev pub times_in : List Fields → List ℕ
times_in rest = map (λ r. value_of (field r 1)) (filter says rest)

-- The records say an instance: a task for each record that says something, with its time; an arc from each task of the
-- list `after` to the record's task; and tasks are apart exactly where a list `apart` says a pair of them.
pub record IsSheetOf (records : List Fields) (line : Line) : Type 0 where
  pub tasks : AreTasks records
  pub known : AreKnown (names_in (behind records)) (members_in (behind records))
  pub whole : Line
  pub made : IsInstanceOf (times_in (behind records))
      (arcs_of (names_in (behind records)) (members_in (behind records))) whole
  pub times : line.times ≡ whole.times
  pub before : line.before ≡ whole.before
  pub order : line.order ≡ whole.order
  pub apart : (i j : ℕ) → Apart line i j
      ↔ IsGiven (pairs_of (names_in (behind records)) (members_in (behind records))) i j

-- What a table says: its instance, the names of the tasks, its mark, whether a byte-order mark stands before it, the
-- pairs of tasks that are apart as they are listed, and the number of the first record with one.
pub record IsTable (mark : ℕ) (bytes : List ℕ) (t : Table) : Type 0 where
  pub sheet : IsSheetOf (table_records mark bytes) t.inst
  pub names : t.names ≡ names_in (behind (table_records mark bytes))
  pub mark_is : t.mark ≡ mark
  pub bom : t.bom ≡ has_bom bytes
  pub pairs : t.pairs.items ≡ pairs_of (names_in (behind (table_records mark bytes)))
      (members_in (behind (table_records mark bytes)))
  pub pairs_at : t.pairs_at ≡ first_pair (members_in (behind (table_records mark bytes)))

-- Each answer with its cause: what the table says, or its first fault.
abbrev pub IsTableRead : ℕ → List ℕ → TableRead → Type 0
IsTableRead mark bytes (Good t) = IsTable mark bytes t
IsTableRead mark bytes (Fault f) = IsFirstFault (table_records mark bytes) f
IsTableRead mark bytes NoMemory = Unit {0}

-- the names that a text gives its tasks, where it is a table
abbrev pub names_of : List ℕ → Option (List (List ℕ))
names_of bytes = option_map (λ mark. names_in (behind (table_records mark bytes))) (table_mark bytes)

-- What is true of each table that is read: its tasks have a name each, no two the same; its pairs are of two tasks.
pub record IsRightTable (t : Table) : Type 0 where
  pub many : length t.names ≡ tasks t.inst
  pub distinct : AreDistinct t.names
  pub pairs : ArePairs (tasks t.inst) t.pairs.items
  pub mark : is_mark t.mark ≡ true

abbrev pub IsWellFormed : TableRead → Type 0
IsWellFormed (Good t) = IsRightTable t
IsWellFormed (Fault f) = Unit {0}
IsWellFormed NoMemory = Unit {0}
