-- What reading a canonical table answers.
use Rattle.std.specs.Prelude.{◌≡◌, ◌↔◌, ℕ, List, Some, length}
use Rattle.line_instance.specs.Line.{Line, IsLine, IsRanked, tasks, Before, Apart}
use Rattle.task_names.specs.TaskNames.{AreNames, AreDistinct}
use Rattle.task_table.specs.Marks.{table_mark}
use Rattle.task_table.specs.Tables.{IsTableRead}
use Rattle.task_table.specs.declared.table.Table.{Table}
use Rattle.task_table.specs.declared.table.TableRead.{TableRead}
use Rattle.task_table.specs.declared.table.TableRead.TheVariants.{Good, Fault, NoMemory}
use Rattle.table_text.specs.TableText.{table_text}

-- a table says the same again: names, times, what is before what, and what is apart from what; so it is written again
-- as the same bytes
pub record SaysAgain (line : Line) (given : List (List ℕ)) (t : Table) : Type 0 where
  pub names : t.names ≡ given
  pub times : t.inst.times ≡ line.times
  pub before : (i j : ℕ) → Before t.inst i j ↔ Before line i j
  pub apart : (i j : ℕ) → Apart t.inst i j ↔ Apart line i j
  pub bytes : table_text t.inst t.names ≡ table_text line given

abbrev pub IsReadBack : Line → List (List ℕ) → TableRead → Type 0
IsReadBack line names (Good t) = SaysAgain line names t
IsReadBack line names (Fault f) = ⊥
IsReadBack line names NoMemory = Unit {0}

-- Each canonical table is known to be a table by its comma, and whatever reading it answers is that line with its names
-- again.
pub record EveryWrittenTableIsRead : Type 0 where
  pub mark : (line : Line) (names : List (List ℕ)) → table_mark (table_text line names) ≡ Some 44
  pub again : (line : Line) (names : List (List ℕ)) (answer : TableRead) → IsLine line → IsRanked line
      → length names ≡ tasks line → AreNames names → AreDistinct names
      → IsTableRead 44 (table_text line names) answer → IsReadBack line names answer
