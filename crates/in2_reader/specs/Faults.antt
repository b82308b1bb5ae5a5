-- The faults of an IN2 text: the first line that no reading passes, or its end.
use Rattle.std.specs.Prelude.{◌≡◌, ℕ, ◌<◌, ◌≤◌, Bool, true, false, nat_eq, cond, List, [], ◌∷◌, ◌++◌, length, map}
use Rattle.std.specs.Prelude.{Option, Some, None, ◌⊎◌}
use Rattle.line_io.specs.Lines.{number_in}
use Rattle.line_io.specs.declared.text.Num.{Num}
use Rattle.line_io.specs.declared.text.Num.TheVariants.{Value, NotANumber as NoNumber, Above}
use Rattle.line_instance.specs.declared.arcs.Prec.{Prec}
use Rattle.line_instance.specs.Walks.{IsRing}
use Rattle.in2_reader.specs.Contents.{Lines, contents_from, lines_in}
use Rattle.in2_reader.specs.Pairs.{pair_in}
use Rattle.in2_reader.specs.Grammar.{In2, Spells, IsIn2}
use Rattle.in2_reader.specs.declared.pair.Pair.{Pair}
use Rattle.in2_reader.specs.declared.pair.Pair.TheVariants.{Arc, BadArc as NoTasks, End, Other}
use Rattle.in2_reader.specs.declared.fault.In2Fault.{In2Fault}
use Rattle.in2_reader.specs.declared.fault.In2Kind.{In2Kind}
use Rattle.in2_reader.specs.declared.fault.In2Kind.TheVariants.{NotANumber, Range, MissingTimes, MissingEnd, BadArc}
use Rattle.in2_reader.specs.declared.fault.In2Kind.TheVariants.{TooManyArcs, Cycle}

-- some contents that are read begin with these lines
abbrev pub IsBeginning : (Lines → Type 0) → Lines → Type 0
IsBeginning Read lines = (more : Lines) × Read (lines ++ more)

-- The fault is of the first line that no reading passes: the lines before it begin contents that are read, and with it
-- they begin none. What is wrong with it goes by the lines before it and its content.
pub record IsLineFault (Read : Lines → Type 0) (Wrong : Lines → List ℕ → In2Kind → Type 0) (lines : Lines)
    (f : In2Fault) : Type 0 where
  pub before : Lines
  pub at : ℕ × List ℕ
  pub after : Lines
  pub all : lines ≡ before ++ at ∷ after
  pub line : f.line ≡ at.0
  pub passes : IsBeginning Read before
  pub stops : IsBeginning Read (before ++ at ∷ []) → ⊥
  pub kind : Wrong before at.1 f.kind

-- The fault is of the text's end: the lines begin contents that are read, and aren't read themselves. What is missing
-- goes by them.
pub record IsEndFault (Read : Lines → Type 0) (Missing : Lines → In2Kind → Type 0) (end : ℕ) (lines : Lines)
    (f : In2Fault) : Type 0 where
  pub line : f.line ≡ end
  pub passes : IsBeginning Read lines
  pub ends : Read lines → ⊥
  pub kind : Missing lines f.kind

-- the contents are read
abbrev pub IsRead : Lines → Type 0
IsRead lines = (x : In2) × Spells lines x

-- the lines are a number of tasks and, behind it, lines of these times and then of these pairs
pub record Begins (lines : Lines) (n : ℕ) (ts : List ℕ) (ps : List Prec) : Type 0 where
  pub head : ℕ × List ℕ
  pub timed : Lines
  pub paired : Lines
  pub all : lines ≡ head ∷ (timed ++ paired)
  pub count : number_in 1024 head.1 ≡ Value n
  pub some : 0 < n
  pub times : map (λ l. number_in 200000000000000 l.1) timed ≡ map Value ts
  pub arcs : map (λ l. pair_in n l.1) paired ≡ map Arc ps
  pub few : length ps ≤ 524288

-- what is wrong with a number of tasks: it is no number, or isn't 1 to 1,024
abbrev pub count_fault : Num → Option In2Kind
count_fault NoNumber = Some NotANumber
count_fault Above = Some Range
count_fault (Value n) = cond (nat_eq n 0) (Some Range) None

-- what is wrong with a time: it is no number, or is above the limit
abbrev pub time_fault : Num → Option In2Kind
time_fault NoNumber = Some NotANumber
time_fault Above = Some Range
time_fault (Value t) = None

-- what is wrong with a pair, where there may be no further one or may be: its form first, then that it is one too many,
-- then its tasks
abbrev pub pair_fault : Bool → Pair → Option In2Kind
pair_fault full Other = Some NotANumber
pair_fault full End = None
pair_fault true NoTasks = Some TooManyArcs
pair_fault true (Arc a) = Some TooManyArcs
pair_fault false NoTasks = Some BadArc
pair_fault false (Arc a) = None

-- What is wrong with a content that stands behind these lines: the first content is the number of tasks, then times are
-- wanted until there are as many, and then pairs.
pub data IsWrong (before : Lines) (content : List ℕ) (kind : In2Kind) : Type 0 where
  count : before ≡ [] → count_fault (number_in 1024 content) ≡ Some kind → IsWrong before content kind
  time : (n : ℕ) (ts : List ℕ) → Begins before n ts [] → length ts < n
      → time_fault (number_in 200000000000000 content) ≡ Some kind → IsWrong before content kind
  pair : (n : ℕ) (ts : List ℕ) (ps : List Prec) → Begins before n ts ps → length ts ≡ n
      → pair_fault (nat_eq (length ps) 524288) (pair_in n content) ≡ Some kind → IsWrong before content kind

-- what is missing behind these lines: times, or the end mark
pub data IsMissing (lines : Lines) (kind : In2Kind) : Type 0 where
  all : lines ≡ [] → kind ≡ MissingTimes → IsMissing lines kind
  times : (n : ℕ) (ts : List ℕ) → Begins lines n ts [] → length ts < n → kind ≡ MissingTimes → IsMissing lines kind
  mark : (n : ℕ) (ts : List ℕ) (ps : List Prec) → Begins lines n ts ps → length ts ≡ n → kind ≡ MissingEnd
      → IsMissing lines kind

-- the fault is a cycle, at the line of the end mark: the text says arcs that have this ring
pub record IsCycleFault (bytes : List ℕ) (f : In2Fault) : Type 0 where
  pub x : In2
  pub reads : IsIn2 bytes x
  pub line : f.line ≡ x.last
  pub ring : List ℕ
  pub kind : f.kind ≡ Cycle ring
  pub is_ring : IsRing x.arcs ring

-- a fault of the form: of a line, or of the end
abbrev pub IsFormFault : ℕ → Lines → In2Fault → Type 0
IsFormFault end lines f = IsLineFault IsRead IsWrong lines f ⊎ IsEndFault IsRead IsMissing end lines f

-- the fault of a text
abbrev pub IsIn2Fault : List ℕ → In2Fault → Type 0
IsIn2Fault bytes f = IsFormFault (lines_in 1 bytes) (contents_from 1 bytes) f ⊎ IsCycleFault bytes f
