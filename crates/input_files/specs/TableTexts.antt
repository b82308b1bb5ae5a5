-- What is printed of the faults of a table.
use Rattle.std.specs.Prelude.{ℕ, List, [], ◌∷◌, ◌++◌, codes, decimal}
use Rattle.task_table.specs.declared.fault.TableKind.{TableKind}
use Rattle.task_table.specs.declared.fault.TableKind.TheVariants as fault
use Rattle.task_table.specs.declared.fault.TableFault.{TableFault}
use Rattle.task_table.specs.declared.fault.TableFault.TheVariants.{Record, Cycle}

-- what is wrong with a record
abbrev pub table_kind_text : TableKind → List ℕ
table_kind_text fault.Heading = codes "heading"
table_kind_text fault.Form = codes "form"
table_kind_text fault.NotUtf8 = codes "not utf-8"
table_kind_text fault.BadName = codes "bad name"
table_kind_text fault.NotANumber = codes "not a number"
table_kind_text fault.Range = codes "range"
table_kind_text fault.RepeatedTask = codes "repeated task"
table_kind_text fault.TooManyTasks = codes "too many tasks"
table_kind_text fault.NoTask = codes "no task"
table_kind_text fault.TooManyArcs = codes "too many arcs"
table_kind_text (fault.UnknownTask name) = codes "unknown task " ++ name
table_kind_text fault.Itself = codes "apart from itself"

-- names that stand behind another one: each after a semicolon and a blank
abbrev pub further_names : List (List ℕ) → List ℕ
further_names [] = []
further_names (n ∷ names) = codes "; " ++ n ++ further_names names

-- names with a semicolon and a blank between
abbrev pub joined_names : List (List ℕ) → List ℕ
joined_names [] = []
joined_names (n ∷ names) = n ++ further_names names

-- the first fault of a table
abbrev pub table_fault_text : TableFault → List ℕ
table_fault_text (Record number kind) = codes "record " ++ decimal number ++ codes " " ++ table_kind_text kind
table_fault_text (Cycle names) = codes "cycle " ++ joined_names names

-- that a command knows no tasks that are apart
abbrev pub apart_text : ℕ → List ℕ
apart_text number = codes "record " ++ decimal number ++ codes " apart not supported"
