-- What an ALB text says, and what reading it answers.
use Rattle.std.specs.Prelude.{◌≡◌, ◌⊎◌, ℕ, suc, ◌<◌, true, false, cond, nat_eq, List, [], ◌∷◌, length, map, Option}
use Rattle.std.specs.Prelude.{Some, None}
use Rattle.std.specs.List.{range_with_len}
use Rattle.line_io.specs.Lines.{number_in}
use Rattle.line_io.specs.declared.text.Num.{Num}
use Rattle.line_io.specs.declared.text.Num.TheVariants.{Value, NotANumber as NoNumber, Above}
use Rattle.line_instance.specs.Line.{Line}
use Rattle.line_instance.specs.Made.{IsInstanceOf}
use Rattle.line_instance.specs.Walks.{IsRing}
use Rattle.line_instance.specs.declared.arcs.Prec.{Prec}
use Rattle.in2_reader.specs.Contents.{Lines, contents_from, lines_in}
use Rattle.in2_reader.specs.Pairs.{pair_in}
use Rattle.in2_reader.specs.declared.pair.Pair.{Pair}
use Rattle.in2_reader.specs.declared.pair.Pair.TheVariants.{Arc, BadArc as NoTasks, End as MinusOnes, Other}
use Rattle.alb_reader.specs.Sections.{under, before_end, end_line}
use Rattle.alb_reader.specs.Faults.{line_fault, task_fault, arc_fault, task_named, time_said, names, AreRight}
use Rattle.alb_reader.specs.Faults.{IsFirstWrong}
use Rattle.alb_reader.specs.declared.mark.Section.TheVariants.{Tasks, Cycle, Times, Pairs}
use Rattle.alb_reader.specs.declared.fault.AlbFault.{AlbFault}
use Rattle.alb_reader.specs.declared.instance.AlbRead.{AlbRead}
use Rattle.alb_reader.specs.declared.instance.AlbRead.TheVariants.{Good, Fault, NoMemory}
use Rattle.alb_reader.specs.declared.fault.AlbKind.TheVariants.{MissingEnd, MissingSection, MissingTask}
use Rattle.alb_reader.specs.declared.fault.AlbKind.TheVariants.{Cycle as HasCycle}

-- a number, where it is one
abbrev pub value : Num → Option ℕ
value NoNumber = None
value Above = None
value (Value v) = Some v

-- the number of the first of the lines, up to a greatest one
abbrev pub first_number : ℕ → Lines → Option ℕ
first_number most [] = None
first_number most (l ∷ lines) = value (number_in most l.1)

-- the number of tasks that the lines say, and the cycle time
abbrev pub tasks_said : Lines → Option ℕ
tasks_said lines = first_number 1024 (under Tasks lines)

abbrev pub cycle_said : Lines → Option ℕ
cycle_said lines = first_number 1000000000000000000 (under Cycle lines)

-- the time that the first of the lines which names a task gives it
abbrev pub time_of : ℕ → Lines → ℕ
time_of v [] = 0
time_of v (l ∷ lines) = cond (nat_eq (task_named l.1) v) (time_said l.1) (time_of v lines)

-- the times that the lines of task times give n tasks
abbrev pub times_of : ℕ → Lines → List ℕ
times_of n timed = map (λ i. time_of (suc i) timed) (range_with_len 0 n)

abbrev pub times_said : ℕ → Lines → List ℕ
times_said n lines = times_of n (under Times lines)

-- a pair of tasks, in front of others
abbrev pub with_pair : Pair → List Prec → List Prec
with_pair (Arc a) arcs = a ∷ arcs
with_pair NoTasks arcs = arcs
with_pair MinusOnes arcs = arcs
with_pair Other arcs = arcs

-- the pairs of lines
abbrev pub arcs_of : Lines → List Prec
arcs_of [] = []
arcs_of (l ∷ lines) = with_pair (pair_in 1024 l.1) (arcs_of lines)

abbrev pub arcs_said : Lines → List Prec
arcs_said lines = arcs_of (under Pairs lines)

-- each of n tasks is named by one of the lines of task times
abbrev pub AllNamed : ℕ → Lines → Type 0
AllNamed n timed = (i : ℕ) → i < n → names (suc i) timed ≡ true

-- i is the least of n tasks, counted from 0, that none of the lines of task times names
pub record IsLeastUnnamed (n : ℕ) (timed : Lines) (i : ℕ) : Type 0 where
  pub task : i < n
  pub unnamed : names (suc i) timed ≡ false
  pub least : (j : ℕ) → j < i → names (suc j) timed ≡ true

-- The form of a text is right: it has an end mark, nothing is wrong with the lines before it, and they say a number of
-- tasks and the times of some.
pub record IsFormed (lines : Lines) (end n : ℕ) : Type 0 where
  pub marked : end_line lines ≡ Some end
  pub right : AreRight line_fault (before_end lines)
  pub tasks : tasks_said (before_end lines) ≡ Some n
  pub times : 0 < length (under Times (before_end lines))

-- each of n tasks has its time, and each pair is of two of them
pub record IsFilled (head : Lines) (n : ℕ) : Type 0 where
  pub timed : AreRight (task_fault n) (under Times head)
  pub named : AllNamed n (under Times head)
  pub paired : AreRight (arc_fault n) (under Pairs head)

-- The text says the instance and, where it has one, the cycle time.
pub record IsAlbReading (bytes : List ℕ) (line : Line) (cycle : Option ℕ) : Type 0 where
  pub end : ℕ
  pub n : ℕ
  pub formed : IsFormed (contents_from 1 bytes) end n
  pub filled : IsFilled (before_end (contents_from 1 bytes)) n
  pub is : IsInstanceOf (times_said n (before_end (contents_from 1 bytes)))
      (arcs_said (before_end (contents_from 1 bytes))) line
  pub timed : cycle ≡ cycle_said (before_end (contents_from 1 bytes))

-- The faults of the form: of the first line before the end mark with which something is wrong; or there is no end mark;
-- or the number of tasks or all times are missing.
pub data IsFormFault (lines : Lines) (last : ℕ) (f : AlbFault) : Type 0 where
  at_line : IsFirstWrong line_fault (before_end lines) f.line f.kind → IsFormFault lines last f
  open_ended : AreRight line_fault lines → end_line lines ≡ None → f.line ≡ last → f.kind ≡ MissingEnd
      → IsFormFault lines last f
  no_section : AreRight line_fault (before_end lines) → end_line lines ≡ Some f.line → f.kind ≡ MissingSection
      → (length (under Tasks (before_end lines)) ≡ 0) ⊎ (length (under Times (before_end lines)) ≡ 0)
      → IsFormFault lines last f

-- The faults of what a formed text says of n tasks, in this order: a line of task times; a task without a time; a pair;
-- a cycle.
pub data IsFillFault (head : Lines) (end n : ℕ) (f : AlbFault) : Type 0 where
  at_task : IsFirstWrong (task_fault n) (under Times head) f.line f.kind → IsFillFault head end n f
  unnamed : (i : ℕ) → AreRight (task_fault n) (under Times head) → IsLeastUnnamed n (under Times head) i → f.line ≡ end
      → f.kind ≡ MissingTask i → IsFillFault head end n f
  at_pair : AreRight (task_fault n) (under Times head) → AllNamed n (under Times head)
      → IsFirstWrong (arc_fault n) (under Pairs head) f.line f.kind → IsFillFault head end n f
  closed : (ring : List ℕ) → IsFilled head n → IsRing (arcs_said head) ring → f.line ≡ end → f.kind ≡ HasCycle ring
      → IsFillFault head end n f

-- the first fault of a text: of its form, or else of what it says
abbrev pub IsAlbFault : List ℕ → AlbFault → Type 0
IsAlbFault bytes f =
    IsFormFault (contents_from 1 bytes) (lines_in 1 bytes) f
    ⊎ ((end : ℕ) × (n : ℕ) × IsFormed (contents_from 1 bytes) end n
    × IsFillFault (before_end (contents_from 1 bytes)) end n f)

-- Each answer with its cause: what the text says, or its first fault.
abbrev pub IsAlbRead : List ℕ → AlbRead → Type 0
IsAlbRead bytes (Good line cycle) = IsAlbReading bytes line cycle
IsAlbRead bytes (Fault f) = IsAlbFault bytes f
IsAlbRead bytes NoMemory = Unit {0}
