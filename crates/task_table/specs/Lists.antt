-- Lists in a field of a table: names with semicolons between, whatever the table's mark.
use Rattle.std.specs.Prelude.{ℕ, suc, Bool, true, false, nat_eq, cond, List, [], ◌∷◌, ◌++◌, map, filter_map, filter}
use Rattle.std.specs.Prelude.{length}
use Rattle.std.specs.Prelude.{Option, Some, None, unwrap_or}
use Rattle.std.specs.List.{list_all}
use Rattle.line_io.specs.Lines.{onto_first}
use Rattle.line_instance.specs.declared.arcs.Prec.{Prec}
use Rattle.task_names.specs.TaskNames.{task_named}
use Rattle.task_table.specs.Records.{Fields, field, says}

-- a text from its first byte on that is no blank
abbrev pub past_blanks : List ℕ → List ℕ
past_blanks [] = []
past_blanks (b ∷ bytes) = cond (nat_eq b 32) (past_blanks bytes) (b ∷ bytes)

-- a byte, and behind it what was kept: a blank with nothing behind it goes too
abbrev pub kept_before : ℕ → List ℕ → List ℕ
kept_before b [] = cond (nat_eq b 32) [] (b ∷ [])
kept_before b (c ∷ bytes) = b ∷ c ∷ bytes

-- a text up to its last byte that is no blank
abbrev pub up_to_blanks : List ℕ → List ℕ
up_to_blanks [] = []
up_to_blanks (b ∷ bytes) = kept_before b (up_to_blanks bytes)

-- a text without the blanks at its ends
abbrev pub unblanked : List ℕ → List ℕ
unblanked bytes = up_to_blanks (past_blanks bytes)

-- the parts of a text between its semicolons: one more than these
abbrev pub parts : List ℕ → List (List ℕ)
parts [] = [] ∷ []
parts (b ∷ bytes) = cond (nat_eq b 59) ([] ∷ parts bytes) (onto_first b (parts bytes))

-- the members of a list; a text without a byte other than blanks is an empty list
abbrev pub members_of : List ℕ → List (List ℕ)
members_of bytes = cond (list_all (λ b. nat_eq b 32) bytes) [] (map unblanked (parts bytes))

-- A member of a list: the number of its record, the task in that record, whether the list is of tasks that are apart
-- (else of tasks directly before), and its name.
pub record Member : Type 0 where
  pub row : ℕ
  pub task : ℕ
  pub apart : Bool
  pub name : List ℕ

-- the members of both lists of a record, those before first
abbrev pub row_members : ℕ → ℕ → Fields → List Member
row_members row task r =
    map (λ n. record { row = row; task = task; apart = false; name = n }) (members_of (field r 2))
    ++ map (λ n. record { row = row; task = task; apart = true; name = n }) (members_of (field r 3))

-- the members of records, of which the first one has this number and its task, where it says something, this one
abbrev pub members_from : ℕ → ℕ → List Fields → List Member
members_from row task [] = []
members_from row task (r ∷ rest) =
    cond (says r) (row_members row task r ++ members_from (suc row) (suc task) rest) (members_from (suc row) task rest)

-- the members of the records behind a heading, in their order
abbrev pub members_in : List Fields → List Member
members_in rest = members_from 2 0 rest

-- the task that a member names
abbrev pub place_of : List (List ℕ) → List ℕ → ℕ
place_of names name = unwrap_or (task_named names name) 0

-- the arc of a member of a list of tasks directly before
abbrev pub arc_of : List (List ℕ) → Member → Option Prec
arc_of names m = cond m.apart None (Some (record { first = place_of names m.name; «then» = m.task }))

-- the pair of a member of a list of tasks that are apart
abbrev pub pair_of : List (List ℕ) → Member → Option Prec
pair_of names m = cond m.apart (Some (record { first = m.task; «then» = place_of names m.name })) None

-- the arcs and the pairs that members say
abbrev pub arcs_of : List (List ℕ) → List Member → List Prec
arcs_of names members = filter_map (arc_of names) members

abbrev pub pairs_of : List (List ℕ) → List Member → List Prec
pairs_of names members = filter_map (pair_of names) members

-- how many members the lists of this column have
abbrev pub count_in : Bool → List Member → ℕ
count_in true members = length (filter (λ m. m.apart) members)
count_in false members = length (filter (λ m. cond m.apart false true) members)

-- the number of the first record with a task that is apart
abbrev pub first_pair : List Member → Option ℕ
first_pair [] = None
first_pair (m ∷ members) = cond m.apart (Some m.row) (first_pair members)
