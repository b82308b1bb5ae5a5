-- What the reader makes of a draft.
use Rattle.std.specs.Prelude.{◌≡◌, ℕ, List, Option, Some, Result, Ok, Err}
use Rattle.line_instance.specs.declared.arcs.Prec.{Prec}
use Rattle.line_instance.specs.Made.{IsInstanceOf}
use Rattle.line_instance.specs.Walks.{IsRing}
use Rattle.in2_reader.specs.Contents.{Lines}
use Rattle.alb_reader.specs.Faults.{line_fault, AreRight}
use Rattle.alb_reader.specs.Instance.{IsFormed, IsFormFault, IsFilled, IsFillFault, tasks_said, times_said, arcs_said}
use Rattle.alb_reader.specs.Instance.{cycle_said}
use Rattle.alb_reader.specs.declared.instance.AlbRead.{AlbRead}
use Rattle.alb_reader.specs.declared.instance.AlbRead.TheVariants as reads
use Rattle.alb_reader.specs.declared.fault.AlbError.{AlbError}
use Rattle.alb_reader.specs.declared.fault.AlbError.TheVariants as errors
use Rattle.alb_reader.specs.declared.fault.AlbKind.TheVariants.{Cycle}

-- the answer where a text isn't read
abbrev pub refusal : AlbError → AlbRead
refusal errors.Memory = reads.NoMemory
refusal (errors.Fault f) = reads.Fault f

-- the form is right, with so many tasks; or it has this fault
abbrev pub IsFormRead : Lines → ℕ → ℕ → Result ℕ AlbError → Type 0
IsFormRead lines last end (Ok n) = IsFormed lines end n
IsFormRead lines last end (Err errors.Memory) = ⊥
IsFormRead lines last end (Err (errors.Fault f)) = IsFormFault lines last f

-- the lines are right, and say so many tasks
pub record IsOfTasks (head : Lines) (n : ℕ) : Type 0 where
  pub right : AreRight line_fault head
  pub tasks : tasks_said head ≡ Some n

-- the instance of these times and arcs, or the cycle of the arcs
abbrev pub IsMadeOf : List ℕ → List Prec → Option ℕ → ℕ → AlbRead → Type 0
IsMadeOf times arcs cycle end (reads.Good line c) = IsInstanceOf times arcs line × (c ≡ cycle)
IsMadeOf times arcs cycle end (reads.Fault f) = (f.line ≡ end) × (ring : List ℕ) × (f.kind ≡ Cycle ring)
    × IsRing arcs ring
IsMadeOf times arcs cycle end reads.NoMemory = Unit {0}

-- what right lines of n tasks say, or its first fault
abbrev pub IsFillRead : Lines → ℕ → ℕ → AlbRead → Type 0
IsFillRead head end n (reads.Good line c) = IsFilled head n × IsInstanceOf (times_said n head) (arcs_said head) line
    × (c ≡ cycle_said head)
IsFillRead head end n (reads.Fault f) = IsFillFault head end n f
IsFillRead head end n reads.NoMemory = Unit {0}
