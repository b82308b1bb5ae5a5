-- The table of the tasks and the links that were read.
use Rattle.std.specs.Prelude.{◌≡◌, ◌↔◌, ℕ, List, map, Result, Ok, Err}
use Rattle.line_instance.specs.Line.{Line, Apart}
use Rattle.line_instance.specs.Made.{IsInstanceOf}
use Rattle.line_instance.specs.Walks.{IsGiven, IsRing}
use Rattle.task_names.specs.TaskNames.{name_at}
use Rattle.task_table.specs.Tables.{IsTableRead}
use Rattle.task_table.specs.inner.Reading.{LinksSaid}
use Rattle.task_table.specs.declared.fault.TableFault.{TableFault}
use Rattle.task_table.specs.declared.fault.TableFault.TheVariants.{Record, Cycle}
use Rattle.task_table.specs.declared.stop.Stop.{Stop}
use Rattle.task_table.specs.declared.stop.Stop.TheVariants as stop
use Rattle.task_table.specs.declared.table.Table.{Table}
use Rattle.task_table.specs.declared.table.TableRead.{TableRead}
use Rattle.task_table.specs.declared.table.TableRead.TheVariants as read

-- the instance of these times and arcs, with these pairs apart
pub record IsLineOf (times : List ℕ) (links : LinksSaid) (line : Line) : Type 0 where
  pub whole : Line
  pub made : IsInstanceOf times links.arcs whole
  pub times_are : line.times ≡ whole.times
  pub before : line.before ≡ whole.before
  pub order : line.order ≡ whole.order
  pub apart : (i j : ℕ) → Apart line i j ↔ IsGiven links.pairs i j

-- the arcs have a cycle, of tasks of these names
pub record IsCycleOf (names : List (List ℕ)) (links : LinksSaid) (found : List (List ℕ)) : Type 0 where
  pub ring : List ℕ
  pub closed : IsRing links.arcs ring
  pub named : found ≡ map (name_at names) ring

-- a fault of links is that they have a cycle
abbrev pub IsLinkFault : List (List ℕ) → LinksSaid → TableFault → Type 0
IsLinkFault names links (Record row kind) = ⊥
IsLinkFault names links (Cycle found) = IsCycleOf names links found

abbrev pub StopsLinks : List (List ℕ) → LinksSaid → Stop → Type 0
StopsLinks names links stop.Memory = Unit {0}
StopsLinks names links (stop.Fault f) = IsLinkFault names links f

-- the instance that the links make of tasks of these times, or their cycle
abbrev pub IsLinked : List ℕ → List (List ℕ) → LinksSaid → Result Line Stop → Type 0
IsLinked times names links (Ok line) = IsLineOf times links line
IsLinked times names links (Err e) = StopsLinks names links e

-- what an early end answers
abbrev pub stopped : Stop → TableRead
stopped stop.Memory = read.NoMemory
stopped (stop.Fault f) = read.Fault f

abbrev pub answer_of : Result Table Stop → TableRead
answer_of (Ok t) = read.Good t
answer_of (Err e) = stopped e

-- a reading that ends early is answered with its cause too
abbrev pub IsReadAs : ℕ → List ℕ → Result Table Stop → Type 0
IsReadAs mark bytes result = IsTableRead mark bytes (answer_of result)
