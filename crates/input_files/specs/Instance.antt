-- What the files of a command say of a line, and why they say none.
use Rattle.std.specs.Prelude.{◌≡◌, ℕ, ◌⊎◌, ◌↔◌, Bool, true, false, List, [], ◌∷◌, Option, Some, None, ◌++◌, codes}
use Rattle.line_instance.specs.Line.{Line, Apart, tasks}
use Rattle.line_instance.specs.Walks.{IsGiven}
use Rattle.line_instance.specs.declared.arcs.Prec.{Prec}
use Rattle.in2_reader.specs.Instance.{IsReading}
use Rattle.in2_reader.specs.Faults.{IsIn2Fault}
use Rattle.in2_reader.specs.ApartFile.{IsApartFile, IsApartFault}
use Rattle.in2_reader.specs.Texts.{fault_text}
use Rattle.in2_reader.specs.declared.fault.In2Fault.{In2Fault}
use Rattle.in2_reader.specs.Contents.{Lines, contents_from}
use Rattle.alb_reader.specs.Sections.{begins_heading}
use Rattle.alb_reader.specs.Instance.{IsAlbReading, IsAlbFault}
use Rattle.alb_reader.specs.Texts.{fault_text as alb_fault_text}
use Rattle.alb_reader.specs.declared.fault.AlbFault.{AlbFault}
use Rattle.task_names.specs.Naming.{naming_by}
use Rattle.task_names.specs.declared.naming.Naming.{Naming}
use Rattle.task_names.specs.declared.naming.Naming.TheVariants.{Numbered}
use Rattle.task_table.specs.Marks.{table_mark}
use Rattle.task_table.specs.Records.{behind, table_records}
use Rattle.task_table.specs.Lists.{first_pair, members_in}
use Rattle.task_table.specs.Faults.{IsFirstFault}
use Rattle.task_table.specs.Tables.{IsSheetOf, names_of}
use Rattle.task_table.specs.declared.fault.TableFault.{TableFault}
use Rattle.command_outcome.specs.Outcome.{Files, Outside, Outcome, told}
use Rattle.command_outcome.specs.Print.{printed}
use Rattle.command_outcome.specs.declared.status.Status.TheVariants as ends
use Rattle.input_files.specs.InputFile.{Reads, IsUntaken, fault_line, max_file}
use Rattle.input_files.specs.TableTexts.{apart_text, table_fault_text}

-- whether the first line with a content begins, in its content, with `<`
abbrev pub begins_alb : Lines → Bool
begins_alb [] = false
begins_alb (l ∷ lines) = begins_heading l.1

-- the bytes are an ALB text, and else an IN2 text
abbrev pub is_alb : List ℕ → Bool
is_alb bytes = begins_alb (contents_from 1 bytes)

-- they are an ALB text that says the line, and the cycle time or none
abbrev pub IsAlbSaid : List ℕ → Line → Option ℕ → Type 0
IsAlbSaid bytes line given = (table_mark bytes ≡ None) × (is_alb bytes ≡ true) × IsAlbReading bytes line given

-- they are an IN2 text that says the line; it has no cycle time
abbrev pub IsIn2Said : List ℕ → Line → Option ℕ → Type 0
IsIn2Said bytes line given =
    (table_mark bytes ≡ None) × (is_alb bytes ≡ false) × IsReading bytes line × (given ≡ None)

-- they are a table that says the line; it has no cycle time
pub record IsTableSaid (bytes : List ℕ) (line : Line) (given : Option ℕ) : Type 0 where
  pub mark : ℕ
  pub marked : table_mark bytes ≡ Some mark
  pub sheet : IsSheetOf (table_records mark bytes) line
  pub none : given ≡ None

-- the bytes say the line, and a cycle time or none: they are a table, and else an ALB text, and else an IN2 text
abbrev pub Says : List ℕ → Line → Option ℕ → Type 0
Says bytes line given = IsAlbSaid bytes line given ⊎ IsIn2Said bytes line given ⊎ IsTableSaid bytes line given

-- what the tasks of a file are called: by the names of a table, and else by their numbers
abbrev pub naming_in : Option (List ℕ) → Naming
naming_in None = Numbered
naming_in (Some bytes) = naming_by (names_of bytes)

abbrev pub naming_of : Files → List ℕ → Naming
naming_of files name = naming_in (files name)

-- they are an ALB text without a reading, and the outcome names its first fault
pub record IsAlbFaulty (name bytes : List ℕ) (out : Outcome) : Type 0 where
  pub no_table : table_mark bytes ≡ None
  pub alb : is_alb bytes ≡ true
  pub fault : AlbFault
  pub first : IsAlbFault bytes fault
  pub unread : (line : Line) (given : Option ℕ) → IsAlbReading bytes line given → ⊥
  pub shown : out ≡ told ends.Input (fault_line name (alb_fault_text fault))

-- they are an IN2 text without a reading, and the outcome names its first fault
pub record IsIn2Faulty (name bytes : List ℕ) (out : Outcome) : Type 0 where
  pub no_table : table_mark bytes ≡ None
  pub in2 : is_alb bytes ≡ false
  pub fault : In2Fault
  pub first : IsIn2Fault bytes fault
  pub unread : (line : Line) → IsReading bytes line → ⊥
  pub shown : out ≡ told ends.Input (fault_line name (fault_text fault))

-- they are a table that says no line, and the outcome names its first fault
pub record IsTableFaulty (name bytes : List ℕ) (out : Outcome) : Type 0 where
  pub mark : ℕ
  pub marked : table_mark bytes ≡ Some mark
  pub fault : TableFault
  pub first : IsFirstFault (table_records mark bytes) fault
  pub unread : (line : Line) → IsSheetOf (table_records mark bytes) line → ⊥
  pub shown : out ≡ told ends.Input (fault_line name (table_fault_text fault))

-- the bytes have no reading, and the outcome names the first fault
abbrev pub IsFaulty : List ℕ → List ℕ → Outcome → Type 0
IsFaulty name bytes out = IsAlbFaulty name bytes out ⊎ IsIn2Faulty name bytes out ⊎ IsTableFaulty name bytes out

-- the file says the line, and a cycle time or none
abbrev pub IsInstance : Files → List ℕ → Line → Option ℕ → Type 0
IsInstance files name line given = Reads max_file (files name) (λ bytes. Says bytes line given)

-- the file says no line: it isn't taken in, or has no reading
abbrev pub IsNoInstance : Outside → List ℕ → Outcome → Type 0
IsNoInstance o name out = IsUntaken o max_file name out ⊎ Reads max_file (o.files name)
    (λ bytes. IsFaulty name bytes out)

-- the cycle time of the words, and else that of the file
abbrev pub cycle_of : Option ℕ → Option ℕ → Option ℕ
cycle_of (Some c) given = Some c
cycle_of None given = given

-- the file says the line, and the cycle time c is that of the words, or else that of the file
pub record IsTimed (files : Files) (name : List ℕ) (word : Option ℕ) (line : Line) (c : ℕ) : Type 0 where
  pub given : Option ℕ
  pub instance : IsInstance files name line given
  pub cycle : cycle_of word given ≡ Some c

-- the line about a file without a cycle time
abbrev pub no_cycle_line : List ℕ → List ℕ
no_cycle_line name = codes "input: " ++ printed name ++ codes " no cycle time\n"

-- the file says a line, and neither it nor the words say a cycle time
pub record IsUntimed (files : Files) (name : List ℕ) (word : Option ℕ) (out : Outcome) : Type 0 where
  pub line : Line
  pub given : Option ℕ
  pub instance : IsInstance files name line given
  pub none : cycle_of word given ≡ None
  pub shown : out ≡ told ends.Input (no_cycle_line name)

-- the file says no line, or there is no cycle time
abbrev pub IsUntimedOrNone : Outside → List ℕ → Option ℕ → Outcome → Type 0
IsUntimedOrNone o name word out = IsNoInstance o name out ⊎ IsUntimed o.files name word out

-- the line as the pairs leave it: two tasks are apart exactly where they were or a pair of them is given, and all else
-- stays
pub record IsParted (pairs : List Prec) (whole line : Line) : Type 0 where
  pub times : line.times ≡ whole.times
  pub before : line.before ≡ whole.before
  pub order : line.order ≡ whole.order
  pub apart : (i j : ℕ) → Apart line i j ↔ (Apart whole i j ⊎ IsGiven pairs i j)

-- the bytes say pairs of tasks, which part the line
abbrev pub Parts : Line → Line → List ℕ → Type 0
Parts whole line bytes = (pairs : List Prec) × IsApartFile (tasks whole) bytes pairs × IsParted pairs whole line

-- the line is the whole one with the tasks apart that a file says, where there is one
abbrev pub IsPartedBy : Files → Option (List ℕ) → Line → Line → Type 0
IsPartedBy files None whole line = line ≡ whole
IsPartedBy files (Some apart) whole line = Reads max_file (files apart) (Parts whole line)

-- the bytes say no pairs of so many tasks, and the outcome names the first fault
pub record IsFaultyApart (name : List ℕ) (n : ℕ) (bytes : List ℕ) (out : Outcome) : Type 0 where
  pub fault : In2Fault
  pub first : IsApartFault n bytes fault
  pub unread : (pairs : List Prec) → IsApartFile n bytes pairs → ⊥
  pub shown : out ≡ told ends.Input (fault_line name (fault_text fault))

-- the file with the tasks that are apart, of so many, says none: it isn't taken in, or has no reading
abbrev pub IsNoPairs : Outside → List ℕ → ℕ → Outcome → Type 0
IsNoPairs o name n out = IsUntaken o max_file name out ⊎ Reads max_file (o.files name)
    (λ bytes. IsFaultyApart name n bytes out)

abbrev pub IsUnparted : Outside → Option (List ℕ) → Line → Outcome → Type 0
IsUnparted o None whole out = ⊥
IsUnparted o (Some apart) whole out = IsNoPairs o apart (tasks whole) out

-- the line is the instance that the first file says, with the tasks apart that the second file says, where there is
-- one; c is the cycle time
pub record IsSaid (files : Files) (name : List ℕ) (apart : Option (List ℕ)) (word : Option ℕ) (line : Line)
    (c : ℕ) : Type 0 where
  pub whole : Line
  pub timed : IsTimed files name word whole c
  pub parted : IsPartedBy files apart whole line

-- the first file says a line and there is a cycle time, and the file with the tasks that are apart says none
pub record IsTimedUnparted (o : Outside) (name : List ℕ) (apart : Option (List ℕ)) (word : Option ℕ)
    (out : Outcome) : Type 0 where
  pub whole : Line
  pub c : ℕ
  pub timed : IsTimed o.files name word whole c
  pub unparted : IsUnparted o apart whole out

-- the files say no line with a cycle time; a later file is named only where the earlier one was read
abbrev pub IsUnsaid : Outside → List ℕ → Option (List ℕ) → Option ℕ → Outcome → Type 0
IsUnsaid o name apart word out = IsUntimedOrNone o name word out ⊎ IsTimedUnparted o name apart word out

-- the line is the instance that the first file says, with the tasks apart that the second file says, whatever the cycle
-- time
pub record IsLineOf (files : Files) (name : List ℕ) (apart : Option (List ℕ)) (line : Line) : Type 0 where
  pub whole : Line
  pub given : Option ℕ
  pub instance : IsInstance files name whole given
  pub parted : IsPartedBy files apart whole line

-- the same, with the cycle time that the first file has, where it has one
pub record IsLineGiven (files : Files) (name : List ℕ) (apart : Option (List ℕ)) (line : Line)
    (given : Option ℕ) : Type 0 where
  pub whole : Line
  pub instance : IsInstance files name whole given
  pub parted : IsPartedBy files apart whole line

-- the first file says a line, and the file with the tasks that are apart says none
pub record IsLineUnparted (o : Outside) (name : List ℕ) (apart : Option (List ℕ)) (out : Outcome) : Type 0 where
  pub whole : Line
  pub given : Option ℕ
  pub instance : IsInstance o.files name whole given
  pub unparted : IsUnparted o apart whole out

-- the files say no line; a later file is named only where the earlier one was read
abbrev pub IsNoLine : Outside → List ℕ → Option (List ℕ) → Outcome → Type 0
IsNoLine o name apart out = IsNoInstance o name out ⊎ IsLineUnparted o name apart out

-- the first file says the line, and no two of its tasks are apart
pub record IsPlainLine (files : Files) (name : List ℕ) (line : Line) : Type 0 where
  pub said : IsLineOf files name None line
  pub none : (i j : ℕ) → Apart line i j → ⊥

-- the bytes are a table that lists tasks that are apart, first in the record of this number
pub record IsPairedAt (bytes : List ℕ) (number : ℕ) : Type 0 where
  pub mark : ℕ
  pub marked : table_mark bytes ≡ Some mark
  pub first : first_pair (members_in (behind (table_records mark bytes))) ≡ Some number

-- the bytes say a line, and list tasks that are apart, which the outcome refuses
pub record IsPaired (name bytes : List ℕ) (out : Outcome) : Type 0 where
  pub line : Line
  pub given : Option ℕ
  pub said : Says bytes line given
  pub number : ℕ
  pub paired : IsPairedAt bytes number
  pub shown : out ≡ told ends.Input (fault_line name (apart_text number))

-- the file says no line, or one of which some tasks are apart
abbrev pub IsNoPlainLine : Outside → List ℕ → Outcome → Type 0
IsNoPlainLine o name out = IsNoInstance o name out ⊎ Reads max_file (o.files name) (λ bytes. IsPaired name bytes out)
