-- The first fault of a table: of its heading, then of its records in order, then that there is no task, then of the
-- members of lists in order, and last a cycle.
use Rattle.std.specs.Prelude.{◌≡◌, ◌⊎◌, ℕ, ◌+◌, ◌<◌, true, List, [], length, take, map, Some, None}
use Rattle.line_instance.specs.Walks.{IsRing}
use Rattle.task_names.specs.TaskNames.{name_at}
use Rattle.task_table.specs.Records.{Fields, says, record_at, columns_of, behind, names_in}
use Rattle.task_table.specs.Lists.{members_in, arcs_of}
use Rattle.task_table.specs.Rows.{task_fault, AreSound, IsSound, member_fault, member_at, AreKnown}
use Rattle.task_table.specs.declared.fault.TableKind.{TableKind}
use Rattle.task_table.specs.declared.fault.TableKind.TheVariants as fault
use Rattle.task_table.specs.declared.fault.TableFault.{TableFault}
use Rattle.task_table.specs.declared.fault.TableFault.TheVariants.{Record, Cycle}

-- the first record isn't a heading
pub record IsHeadingFault (records : List Fields) (number : ℕ) (kind : TableKind) : Type 0 where
  pub heading : columns_of (record_at records 0) ≡ None
  pub first : number ≡ 1
  pub what : kind ≡ fault.Heading

-- a record behind the heading has the fault, and none above it has one; the record at place 0 behind it is number 2
pub record IsRecordFault (records : List Fields) (number : ℕ) (kind : TableKind) : Type 0 where
  pub columns : ℕ
  pub heading : columns_of (record_at records 0) ≡ Some columns
  pub place : ℕ
  pub within : place < length (behind records)
  pub number_is : number ≡ place + 2
  pub above : (p : ℕ) → p < place → IsSound columns (behind records) p
  pub task : says (record_at (behind records) place) ≡ true
  pub what : task_fault columns (names_in (take place (behind records))) (record_at (behind records) place) ≡ Some kind

-- nothing is wrong with any record, and none is of a task
pub record HasNoTask (records : List Fields) (number : ℕ) (kind : TableKind) : Type 0 where
  pub columns : ℕ
  pub heading : columns_of (record_at records 0) ≡ Some columns
  pub sound : AreSound columns (behind records)
  pub none : names_in (behind records) ≡ []
  pub number_is : number ≡ length records + 1
  pub what : kind ≡ fault.NoTask

-- the records are a heading and tasks, and nothing is wrong with any of them
pub record AreTasks (records : List Fields) : Type 0 where
  pub columns : ℕ
  pub heading : columns_of (record_at records 0) ≡ Some columns
  pub sound : AreSound columns (behind records)
  pub some : 0 < length (names_in (behind records))

-- a member of a list has the fault, and none before it has one
pub record IsMemberFault (records : List Fields) (number : ℕ) (kind : TableKind) : Type 0 where
  pub tasks : AreTasks records
  pub place : ℕ
  pub within : place < length (members_in (behind records))
  pub number_is : number ≡ (member_at (members_in (behind records)) place).row
  pub above : AreKnown (names_in (behind records)) (take place (members_in (behind records)))
  pub what : member_fault (names_in (behind records)) (take place (members_in (behind records)))
      (member_at (members_in (behind records)) place) ≡ Some kind

-- nothing is wrong with any record or member, and these are the names of the tasks along a closed walk of arcs
pub record IsCycleFault (records : List Fields) (names : List (List ℕ)) : Type 0 where
  pub tasks : AreTasks records
  pub known : AreKnown (names_in (behind records)) (members_in (behind records))
  pub ring : List ℕ
  pub closed : IsRing (arcs_of (names_in (behind records)) (members_in (behind records))) ring
  pub named : names ≡ map (name_at (names_in (behind records))) ring

-- The first fault of the records of a table.
abbrev pub IsFirstFault : List Fields → TableFault → Type 0
IsFirstFault records (Record number kind) =
    IsHeadingFault records number kind ⊎ IsRecordFault records number kind ⊎ HasNoTask records number kind
    ⊎ IsMemberFault records number kind
IsFirstFault records (Cycle names) = IsCycleFault records names
