-- What is wrong with a record of a table, and with a member of a list, and where nothing is.
use Rattle.std.specs.Prelude.{◌≡◌, ℕ, ◌<◌, true, false, ◌&&◌, not, nat_eq, nat_lt, bytes_eq, cond, List, [], length}
use Rattle.std.specs.Prelude.{take}
use Rattle.std.specs.Prelude.{drop, slice_index_or, Option, Some, None}
use Rattle.std.specs.List.{list_any}
use Rattle.std.specs.Str.{is_utf8}
use Rattle.line_io.specs.Lines.{number_in}
use Rattle.line_io.specs.declared.text.Num.{Num}
use Rattle.line_io.specs.declared.text.Num.TheVariants.{Value, NotANumber, Above}
use Rattle.task_names.specs.TaskNames.{is_task_name, task_named}
use Rattle.task_table.specs.Records.{Fields, field, says, names_in, record_at}
use Rattle.task_table.specs.Lists.{Member, count_in}
use Rattle.task_table.specs.declared.fault.TableKind.{TableKind}
use Rattle.task_table.specs.declared.fault.TableKind.TheVariants as fault

-- what is wrong with the time of a task, or else what comes next
abbrev pub time_fault : Num → Option TableKind → Option TableKind
time_fault NotANumber next = Some fault.NotANumber
time_fault Above next = Some fault.Range
time_fault (Value v) next = next

-- The first thing that is wrong with a record of a task in a table of so many columns, where the tasks above it have
-- these names. In this order: a field behind the columns isn't empty; the name isn't UTF-8; it is no name; the time is
-- no number, or above the limit; a task above has the name; there are 1,024 above.
abbrev pub task_fault : ℕ → List (List ℕ) → Fields → Option TableKind
task_fault columns names r =
    cond (says (drop columns r)) (Some fault.Form)
    (cond (not (is_utf8 (field r 0))) (Some fault.NotUtf8)
    (cond (not (is_task_name (field r 0))) (Some fault.BadName)
    (time_fault (number_in 200000000000000 (field r 1))
    (cond (list_any (λ n. bytes_eq n (field r 0)) names) (Some fault.RepeatedTask)
    (cond (nat_lt (length names) 1024) None (Some fault.TooManyTasks))))))

-- nothing is wrong with the record at a place behind the heading: it says nothing, or it is a task's
abbrev pub IsSound : ℕ → List Fields → ℕ → Type 0
IsSound columns rest p = says (record_at rest p) ≡ true
    → task_fault columns (names_in (take p rest)) (record_at rest p) ≡ None

-- nothing is wrong with any
abbrev pub AreSound : ℕ → List Fields → Type 0
AreSound columns rest = (p : ℕ) → p < length rest → IsSound columns rest p

-- what is wrong with a member whose name is that of a task, or of none
abbrev pub known_fault : Option ℕ → Member → Option TableKind
known_fault None m = Some (fault.UnknownTask m.name)
known_fault (Some j) m = cond (m.apart && nat_eq j m.task) (Some fault.Itself) None

-- The first thing that is wrong with a member of a list, where the tasks have these names and these members come
-- before it. In this order: it is no name; 524,288 members of its column come before it; no task has the name; it
-- stands in the list of tasks apart from itself.
abbrev pub member_fault : List (List ℕ) → List Member → Member → Option TableKind
member_fault names before m =
    cond (not (is_task_name m.name)) (Some fault.BadName)
    (cond (nat_lt (count_in m.apart before) 524288) (known_fault (task_named names m.name) m) (Some fault.TooManyArcs))

-- the member at a place
abbrev pub member_at : List Member → ℕ → Member
member_at members p = slice_index_or members p (record { row = 0; task = 0; apart = false; name = [] })

-- nothing is wrong with any member
abbrev pub AreKnown : List (List ℕ) → List Member → Type 0
AreKnown names members = (p : ℕ) → p < length members
    → member_fault names (take p members) (member_at members p) ≡ None
