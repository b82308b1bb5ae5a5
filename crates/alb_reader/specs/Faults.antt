-- What is wrong with the lines of an ALB text.
use Rattle.std.specs.Prelude.{◌≡◌, ℕ, Bool, false, ◌&&◌, ◌||◌, cond, nat_eq, nat_le, nat_lt, List, [], ◌∷◌, ◌++◌}
use Rattle.std.specs.Prelude.{length, Option, Some, None}
use Rattle.line_io.specs.Lines.{number_in}
use Rattle.line_io.specs.declared.text.Num.{Num}
use Rattle.line_io.specs.declared.text.Num.TheVariants.{Value, NotANumber as NoNumber, Above}
use Rattle.in2_reader.specs.Contents.{Lines}
use Rattle.in2_reader.specs.Pairs.{pair_in, is_gap, onto_front, without_gaps_front}
use Rattle.in2_reader.specs.declared.pair.Pair.{Pair}
use Rattle.in2_reader.specs.declared.pair.Pair.TheVariants.{Arc, BadArc as NoTasks, End as MinusOnes, Other}
use Rattle.alb_reader.specs.Sections.{mark_of, section_after, under, has_heading}
use Rattle.alb_reader.specs.declared.mark.Section.{Section}
use Rattle.alb_reader.specs.declared.mark.Section.TheVariants.{Tasks, Cycle, Strength, Times, Pairs}
use Rattle.alb_reader.specs.declared.mark.Mark.{Mark}
use Rattle.alb_reader.specs.declared.mark.Mark.TheVariants.{Heading, End, Unknown, Body}
use Rattle.alb_reader.specs.declared.fault.AlbKind.{AlbKind}
use Rattle.alb_reader.specs.declared.fault.AlbKind.TheVariants.{NotANumber, Range, Stray, UnknownHeading}
use Rattle.alb_reader.specs.declared.fault.AlbKind.TheVariants.{RepeatedHeading, BadTask, RepeatedTask, BadArc}
use Rattle.alb_reader.specs.declared.fault.AlbKind.TheVariants.{TooManyArcs}

-- what stands before the first blank or tab, and behind it
abbrev pub gap_split : List ℕ → Option (List ℕ × List ℕ)
gap_split [] = None
gap_split (b ∷ bytes) = cond (is_gap b) (Some ([], bytes)) (onto_front b (gap_split bytes))

-- a task and a time: two numbers with one or more blanks or tabs between
abbrev pub timed_by : Option (List ℕ × List ℕ) → Num × Num
timed_by None = (NoNumber, NoNumber)
timed_by (Some p) = (number_in 1024 p.0, number_in 200000000000000 (without_gaps_front p.1))

abbrev pub timed : List ℕ → Num × Num
timed content = timed_by (gap_split content)

-- what is wrong with the number of tasks, or with the cycle time: it is no number, or is 0 or above its limit
abbrev pub some_fault : Num → Option AlbKind
some_fault NoNumber = Some NotANumber
some_fault Above = Some Range
some_fault (Value n) = cond (nat_eq n 0) (Some Range) None

-- what is wrong with a task and a time: one of them is no number, or the time is above its limit
abbrev pub timed_fault : Num → Num → Option AlbKind
timed_fault NoNumber time = Some NotANumber
timed_fault Above NoNumber = Some NotANumber
timed_fault Above Above = Some Range
timed_fault Above (Value t) = None
timed_fault (Value i) NoNumber = Some NotANumber
timed_fault (Value i) Above = Some Range
timed_fault (Value i) (Value t) = None

-- what is wrong with a pair, where there may be no further one or may be
abbrev pub pair_fault : Bool → Pair → Option AlbKind
pair_fault full Other = Some NotANumber
pair_fault full MinusOnes = Some NotANumber
pair_fault full NoTasks = cond full (Some TooManyArcs) None
pair_fault full (Arc a) = cond full (Some TooManyArcs) None

-- a section of one line has no second one
abbrev pub single : Lines → Option AlbKind → Option AlbKind
single [] fault = fault
single (l ∷ lines) fault = Some Stray

-- what is wrong with a line of a section, by the lines before it
abbrev pub body_fault : Lines → List ℕ → Option Section → Option AlbKind
body_fault before content None = Some Stray
body_fault before content (Some Tasks) = single (under Tasks before) (some_fault (number_in 1024 content))
body_fault before content (Some Cycle) = single (under Cycle before)
    (some_fault (number_in 1000000000000000000 content))
body_fault before content (Some Strength) = single (under Strength before) None
body_fault before content (Some Times) = timed_fault (timed content).0 (timed content).1
body_fault before content (Some Pairs) = pair_fault (nat_eq (length (under Pairs before)) 524288) (pair_in 1024 content)

-- what is wrong with a line, by the lines before it: a heading of no section, a heading that stood before, a line
-- before the first heading, a second line of a section of one line, or a line that its section can't have
abbrev pub mark_fault : Lines → List ℕ → Mark → Option AlbKind
mark_fault before content (Heading s) = cond (has_heading s before) (Some RepeatedHeading) None
mark_fault before content End = None
mark_fault before content Unknown = Some UnknownHeading
mark_fault before content Body = body_fault before content (section_after None before)

abbrev pub line_fault : Lines → List ℕ → Option AlbKind
line_fault before content = mark_fault before content (mark_of content)

-- the number of the task of a line of task times, from 1; 0 where it has no number up to 1,024
abbrev pub value_or_0 : Num → ℕ
value_or_0 NoNumber = 0
value_or_0 Above = 0
value_or_0 (Value v) = v

abbrev pub task_named : List ℕ → ℕ
task_named content = value_or_0 (timed content).0

-- the time of such a line
abbrev pub time_said : List ℕ → ℕ
time_said content = value_or_0 (timed content).1

-- a line among them names the task of this number
abbrev pub names : ℕ → Lines → Bool
names v [] = false
names v (l ∷ lines) = nat_eq (task_named l.1) v || names v lines

-- what is wrong with a line of task times, of n tasks, by such lines before it: it names none of them, or one that was
-- named before
abbrev pub task_fault : ℕ → Lines → List ℕ → Option AlbKind
task_fault n before content =
    cond (nat_le 1 (task_named content) && nat_le (task_named content) n)
    (cond (names (task_named content) before) (Some RepeatedTask) None) (Some BadTask)

-- what is wrong with a pair of n tasks: one of its members is none of them
abbrev pub members_fault : ℕ → Pair → Option AlbKind
members_fault n (Arc a) = cond (nat_lt a.first n && nat_lt a.«then» n) None (Some BadArc)
members_fault n NoTasks = Some BadArc
members_fault n MinusOnes = Some BadArc
members_fault n Other = Some BadArc

abbrev pub arc_fault : ℕ → Lines → List ℕ → Option AlbKind
arc_fault n before content = members_fault n (pair_in 1024 content)

-- nothing is wrong with these lines, where others stand before them
abbrev pub AreRightFrom : (Lines → List ℕ → Option AlbKind) → Lines → Lines → Type 0
AreRightFrom fault before [] = Unit {0}
AreRightFrom fault before (l ∷ lines) = (fault before l.1 ≡ None) × AreRightFrom fault (before ++ l ∷ []) lines

-- nothing is wrong with any of the lines
abbrev pub AreRight : (Lines → List ℕ → Option AlbKind) → Lines → Type 0
AreRight fault lines = AreRightFrom fault [] lines

-- the first of the lines with which something is wrong: nothing is with those before it
pub record IsFirstWrong (fault : Lines → List ℕ → Option AlbKind) (lines : Lines) (number : ℕ)
    (kind : AlbKind) : Type 0 where
  pub before : Lines
  pub at : ℕ × List ℕ
  pub after : Lines
  pub all : lines ≡ before ++ at ∷ after
  pub right : AreRight fault before
  pub wrong : fault before at.1 ≡ Some kind
  pub line : number ≡ at.0
