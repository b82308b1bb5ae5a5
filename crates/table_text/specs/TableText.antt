-- The canonical table of an instance whose tasks have names (own).
use Rattle.std.specs.Prelude.{ℕ, zero, suc, ◌&&◌, Bool, true, not, cond, codes, decimal, List, [], ◌∷◌, ◌++◌, map}
use Rattle.std.specs.List.{list_any}
use Rattle.line_instance.specs.Line.{Line, tasks, time, is_before, is_apart}
use Rattle.task_names.specs.TaskNames.{name_at}
use Rattle.task_table.specs.Records.{Fields}
use Rattle.sheet_rows.specs.SheetRows.{rows_text}

-- the numbers below n that pass a test, ascending
abbrev pub those_below : (ℕ → Bool) → ℕ → List ℕ
those_below p zero = []
those_below p (suc n) = those_below p n ++ cond (p n) (n ∷ []) []

-- whether some number below n passes a test
abbrev pub some_below : (ℕ → Bool) → ℕ → Bool
some_below p n = list_any p (those_below (λ _. true) n)

-- whether task i is directly before task j: before it, and no task lies between
abbrev pub is_direct : Line → ℕ → ℕ → Bool
is_direct line j i = is_before line i j && not (some_below (λ k. is_before line i k && is_before line k j) (tasks line))

-- whether two tasks are apart
abbrev pub has_pair : Line → Bool
has_pair line = some_below (λ j. some_below (λ i. is_apart line i j) (tasks line)) (tasks line)

-- names, each but the first behind a semicolon and a blank
abbrev pub behind_first : List (List ℕ) → List ℕ
behind_first [] = []
behind_first (n ∷ names) = codes "; " ++ n ++ behind_first names

abbrev pub joined : List (List ℕ) → List ℕ
joined [] = []
joined (n ∷ names) = n ++ behind_first names

-- the list of a field: the names of tasks, ascending by their numbers
abbrev pub listed : List (List ℕ) → List ℕ → List ℕ
listed names is = joined (map (name_at names) is)

-- the heading, with a column for tasks that are apart where there are some
abbrev pub heading : Bool → Fields
heading paired = codes "task" ∷ codes "time" ∷ codes "after" ∷ cond paired (codes "apart" ∷ []) []

-- the record of a task: its name, its time, the tasks that it is covered by, and those of smaller numbers that are
-- apart from it
abbrev pub record_of : Line → List (List ℕ) → Bool → ℕ → Fields
record_of line names paired j =
    name_at names j ∷ decimal (time line j) ∷ listed names (those_below (is_direct line j) (tasks line))
    ∷ cond paired (listed names (those_below (λ i. is_apart line i j) j) ∷ []) []

-- the records of the tasks
abbrev pub records_of : Line → List (List ℕ) → Bool → List Fields
records_of line names paired = map (record_of line names paired) (those_below (λ _. true) (tasks line))

-- The canonical table: its records with commas between the fields, a field in double quotes exactly where it has a
-- comma or a double quote.
abbrev pub table_text : Line → List (List ℕ) → List ℕ
table_text line names = rows_text 44 (heading (has_pair line) ∷ records_of line names (has_pair line))
