-- What the reader keeps of the lines that it has read.
use Rattle.std.specs.Prelude.{◌≡◌, ℕ, ◌<◌, Bool, true, false, List, [], ◌∷◌, ◌++◌, map, Option, Some, None, Result}
use Rattle.std.specs.Prelude.{MatchResult, Ok, Err}
use Rattle.std.specs.Option.{is_some as is_there}
use Rattle.in2_reader.specs.Contents.{Lines}
use Rattle.in2_reader.specs.Pairs.{pair_in}
use Rattle.in2_reader.specs.declared.pair.Pair.{Pair}
use Rattle.in2_reader.specs.declared.pair.Pair.TheVariants.{Arc, BadArc as NoTasks, End as MinusOnes, Other}
use Rattle.line_instance.specs.declared.arcs.Prec.{Prec}
use Rattle.alb_reader.specs.Sections.{under, has_heading, section_after, before_end, end_line}
use Rattle.alb_reader.specs.Faults.{task_named, time_said, line_fault, AreRight}
use Rattle.alb_reader.specs.Instance.{tasks_said, cycle_said, IsFormFault}
use Rattle.alb_reader.specs.declared.draft.Draft.{Draft}
use Rattle.alb_reader.specs.declared.draft.Headings.{Headings}
use Rattle.alb_reader.specs.declared.draft.TimeLine.{TimeLine}
use Rattle.alb_reader.specs.declared.draft.PairLine.{PairLine}
use Rattle.alb_reader.specs.declared.mark.Section.{Section}
use Rattle.alb_reader.specs.declared.mark.Section.TheVariants.{Tasks, Cycle, Strength, Times, Pairs}
use Rattle.alb_reader.specs.declared.fault.AlbKind.{AlbKind}
use Rattle.alb_reader.specs.declared.fault.AlbError.{AlbError}
use Rattle.alb_reader.specs.declared.fault.AlbError.TheVariants as errors
use Rattle.alb_reader.specs.declared.fault.LineError.{LineError}
use Rattle.alb_reader.specs.declared.fault.LineError.TheVariants.{Memory, Fault}

-- the headings that stood
abbrev pub heading_seen : Headings → Section → Bool
heading_seen h Tasks = h.tasks
heading_seen h Cycle = h.cycle
heading_seen h Strength = h.strength
heading_seen h Times = h.times
heading_seen h Pairs = h.pairs

-- a line of task times, and a line of a pair
abbrev pub time_line : ℕ × List ℕ → TimeLine
time_line l = record { line = l.0; task = task_named l.1; time = time_said l.1 }

abbrev pub arc_of : Pair → Option Prec
arc_of (Arc a) = Some a
arc_of NoTasks = None
arc_of MinusOnes = None
arc_of Other = None

abbrev pub pair_line : ℕ × List ℕ → PairLine
pair_line l = record { line = l.0; arc = arc_of (pair_in 1024 l.1) }

-- there is a line
abbrev pub is_some : Lines → Bool
is_some [] = false
is_some (l ∷ lines) = true

-- the draft is that of the lines that were read
pub record IsDraft (lines : Lines) (d : Draft) : Type 0 where
  pub section : d.section ≡ section_after None lines
  pub seen : (s : Section) → heading_seen d.seen s ≡ has_heading s lines
  pub counted : is_there d.tasks ≡ is_some (under Tasks lines)
  pub tasks : d.tasks ≡ tasks_said lines
  pub timed : is_there d.cycle ≡ is_some (under Cycle lines)
  pub cycle : d.cycle ≡ cycle_said lines
  pub some : (n : ℕ) → d.tasks ≡ Some n → 0 < n
  pub long : (c : ℕ) → d.cycle ≡ Some c → 0 < c
  pub strength : d.strength ≡ is_some (under Strength lines)
  pub times : d.times.items ≡ map time_line (under Times lines)
  pub pairs : d.pairs.items ≡ map pair_line (under Pairs lines)

-- out of memory, or this is wrong
abbrev pub IsWrong : Option AlbKind → LineError → Type 0
IsWrong fault Memory = Unit {0}
IsWrong fault (Fault kind) = fault ≡ Some kind

-- a line behind these was taken, and nothing is wrong with it; or this is wrong with it
abbrev pub Takes : Lines → ℕ → List ℕ → Draft → Result (Unit {0}) LineError → Type 0
Takes before line content d r = MatchResult r (λ _. (line_fault before content ≡ None)
    × IsDraft (before ++ (line, content) ∷ []) d) (IsWrong (line_fault before content))

-- the draft with another section, and these headings
abbrev pub opened : Draft → Section → Headings → Draft
opened d s seen = record {
  section = Some s;
  seen = seen;
  tasks = d.tasks;
  cycle = d.cycle;
  strength = d.strength;
  times = d.times;
  pairs = d.pairs;
}

-- a fault of a line, or out of memory
abbrev pub error_at : ℕ → LineError → AlbError
error_at line Memory = errors.Memory
error_at line (Fault kind) = errors.Fault (record { line = line; kind = kind })

-- the lines up to the end mark are right, and the draft is that of them
pub record IsWhole (lines : Lines) (d : Draft) (end : ℕ) : Type 0 where
  pub marked : end_line lines ≡ Some end
  pub right : AreRight line_fault (before_end lines)
  pub draft : IsDraft (before_end lines) d

-- the draft of the lines up to the end mark, or the first fault of them, or that there is no end mark
abbrev pub IsDrafted : Lines → ℕ → Result (Draft × ℕ) AlbError → Type 0
IsDrafted lines last (Ok x) = IsWhole lines x.0 x.1
IsDrafted lines last (Err errors.Memory) = Unit {0}
IsDrafted lines last (Err (errors.Fault f)) = IsFormFault lines last f

-- Some lines are read: no end mark is among them, nothing is wrong with them, and the draft is that of them.
pub record IsAmid (lines : Lines) (d : Draft) (left : Lines) : Type 0 where
  pub done : Lines
  pub all : lines ≡ done ++ left
  pub ahead : before_end done ≡ done
  pub unmarked : end_line done ≡ None
  pub right : AreRight line_fault done
  pub draft : IsDraft done d
