-- The reading of a table, record by record and then member by member: what is made of what was said before.
use Rattle.std.specs.Prelude.{◌≡◌, ℕ, ◌+◌, Bool, true, false, ◌&&◌, not, nat_eq, nat_lt, cond, List, [], ◌∷◌, ◌++◌}
use Rattle.std.specs.Prelude.{length}
use Rattle.std.specs.Prelude.{Option, Some, None, Result, Ok, Err}
use Rattle.line_io.specs.Lines.{value_of}
use Rattle.line_io.specs.declared.text.Num.{Num}
use Rattle.line_io.specs.declared.text.Num.TheVariants.{Value, NotANumber, Above}
use Rattle.line_instance.specs.declared.arcs.Prec.{Prec}
use Rattle.task_names.specs.TaskNames.{is_task_name, task_named}
use Rattle.task_table.specs.Records.{Fields, field, says, record_at, behind, columns_of}
use Rattle.task_table.specs.Lists.{members_of}
use Rattle.task_table.specs.Rows.{task_fault}
use Rattle.task_table.specs.declared.fault.TableFault.{TableFault}
use Rattle.task_table.specs.declared.fault.TableFault.TheVariants.{Record}
use Rattle.task_table.specs.declared.fault.TableKind.{TableKind}
use Rattle.task_table.specs.declared.fault.TableKind.TheVariants as fault
use Rattle.task_table.specs.declared.links.Owner.{Owner}
use Rattle.task_table.specs.declared.stop.Stop.{Stop}
use Rattle.task_table.specs.declared.stop.Stop.TheVariants as stop

-- a value, or the first fault of a table
abbrev pub Said : Type 0 → Type 0
Said A = Result A TableFault

abbrev pub next : {A B : Type 0} → Said A → (A → Said B) → Said B
next (Err f) more = Err f
next (Ok x) more = more x

-- a value, where nothing is wrong with a record
abbrev pub unless : {A : Type 0} → ℕ → Option TableKind → A → Said A
unless row None x = Ok x
unless row (Some kind) x = Err (Record row kind)

abbrev pub kind_or : {A : Type 0} → Option TableKind → A → Result A TableKind
kind_or None x = Ok x
kind_or (Some kind) x = Err kind

-- the time that a number says
abbrev pub time_or : Num → Result ℕ TableKind
time_or NotANumber = Err fault.NotANumber
time_or Above = Err fault.Range
time_or (Value v) = Ok v

-- an answer is what is said, unless memory ran out
abbrev pub Stops : {A : Type 0} → Stop → Said A → Type 0
Stops stop.Memory said = Unit {0}
Stops (stop.Fault f) said = said ≡ Err f

abbrev pub Tells : {A : Type 0} → Result A Stop → Said A → Type 0
Tells (Ok x) said = said ≡ Ok x
Tells (Err e) said = Stops e said

abbrev pub Makes : {A : Type 0} → Result (Unit {0}) Stop → A → Said A → Type 0
Makes (Ok u) new said = said ≡ Ok new
Makes (Err e) new said = Stops e said

-- ---- the records

-- the lists of a record of a task: the record's number, and the bytes of its fields `after` and `apart`
pub record ListsSaid : Type 0 where
  pub row : ℕ
  pub after : List ℕ
  pub apart : List ℕ

abbrev pub lists_of : ℕ → Fields → ListsSaid
lists_of row r = record { row = row; after = field r 2; apart = field r 3 }

-- the tasks of the records so far: their names, their times and their lists
pub record TasksSaid : Type 0 where
  pub names : List (List ℕ)
  pub times : List ℕ
  pub lists : List ListsSaid

abbrev pub no_tasks : TasksSaid
no_tasks = record { names = []; times = []; lists = [] }

abbrev pub with_task : TasksSaid → ℕ → Fields → TasksSaid
with_task d row r = record {
  names = d.names ++ field r 0 ∷ [];
  times = d.times ++ value_of (field r 1) ∷ [];
  lists = d.lists ++ lists_of row r ∷ [];
}

-- what a record of this number makes of the tasks above it, in a table of so many columns
abbrev pub record_said : ℕ → ℕ → Fields → TasksSaid → Said TasksSaid
record_said columns row r d = cond (says r) (unless row (task_fault columns d.names r) (with_task d row r)) (Ok d)

-- behind the last record, whose number is one less, there has to be a task
abbrev pub ended_said : ℕ → TasksSaid → Said TasksSaid
ended_said row d = cond (nat_lt 0 (length d.names)) (Ok d) (Err (Record row fault.NoTask))

abbrev pub rest_said : ℕ → List Fields → ℕ → TasksSaid → Said TasksSaid
rest_said columns [] row d = ended_said row d
rest_said columns (r ∷ rs) row d = next (record_said columns row r d) (rest_said columns rs (row + 1))

abbrev pub headed_said : Option ℕ → List Fields → Said TasksSaid
headed_said None rest = Err (Record 1 fault.Heading)
headed_said (Some columns) rest = rest_said columns rest 2 no_tasks

-- the tasks that the records say, or their first fault
abbrev pub tasks_said : List Fields → Said TasksSaid
tasks_said records = headed_said (columns_of (record_at records 0)) (behind records)

-- ---- the members of lists

-- the arcs and the pairs of the members so far, and the number of the first record with a pair
pub record LinksSaid : Type 0 where
  pub arcs : List Prec
  pub pairs : List Prec
  pub pairs_at : Option ℕ

abbrev pub no_links : LinksSaid
no_links = record { arcs = []; pairs = []; pairs_at = None }

-- how many members of lists of this column there were
abbrev pub count_of : Bool → LinksSaid → ℕ
count_of true g = length g.pairs
count_of false g = length g.arcs

-- the first of two numbers
abbrev pub first_of : Option ℕ → ℕ → Option ℕ
first_of (Some row) other = Some row
first_of None other = Some other

abbrev pub linked : Bool → ℕ → ℕ → ℕ → LinksSaid → LinksSaid
linked false row task place g = record g { arcs = g.arcs ++ record { first = place; «then» = task } ∷ [] }
linked true row task place g = record g {
  pairs = g.pairs ++ record { first = task; «then» = place } ∷ [];
  pairs_at = first_of g.pairs_at row;
}

-- one more arc or pair, with the task at a place
abbrev pub with_link : LinksSaid → Owner → ℕ → LinksSaid
with_link g o place = linked o.apart o.row o.task place g

-- what a member makes that is the name of the task at a place
abbrev pub known_said : Owner → ℕ → LinksSaid → Said LinksSaid
known_said o place g =
    cond (nat_lt (count_of o.apart g) 524288)
    (cond (o.apart && nat_eq place o.task) (Err (Record o.row fault.Itself)) (Ok (with_link g o place)))
    (Err (Record o.row fault.TooManyArcs))

-- what is wrong with a member that is the name of no task, behind so many of its column
abbrev pub unknown_kind : ℕ → List ℕ → TableKind
unknown_kind many name =
    cond (not (is_task_name name)) fault.BadName (cond (nat_lt many 524288) (fault.UnknownTask name) fault.TooManyArcs)

abbrev pub placed_said : Option ℕ → Owner → List ℕ → LinksSaid → Said LinksSaid
placed_said None o name g = Err (Record o.row (unknown_kind (count_of o.apart g) name))
placed_said (Some place) o name g = known_said o place g

-- what a member of a list makes of those before it, where the tasks have these names
abbrev pub link_said : List (List ℕ) → Owner → List ℕ → LinksSaid → Said LinksSaid
link_said names o name g = placed_said (task_named names name) o name g

-- what the members of a list make
abbrev pub links_said : List (List ℕ) → Owner → List (List ℕ) → LinksSaid → Said LinksSaid
links_said names o [] g = Ok g
links_said names o (n ∷ ns) g = next (link_said names o n g) (links_said names o ns)

-- what both lists of a task make
abbrev pub task_links_said : List (List ℕ) → ℕ → ListsSaid → LinksSaid → Said LinksSaid
task_links_said names task l g =
    next (links_said names (record { row = l.row; task = task; apart = false }) (members_of l.after) g)
    (links_said names (record { row = l.row; task = task; apart = true }) (members_of l.apart))

-- what the lists of tasks make, of which the first is this one's
abbrev pub lists_said : List (List ℕ) → ℕ → List ListsSaid → LinksSaid → Said LinksSaid
lists_said names task [] g = Ok g
lists_said names task (l ∷ ls) g = next (task_links_said names task l g) (lists_said names (task + 1) ls)
