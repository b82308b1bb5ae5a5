-- What the reader makes of the lines of task times and of pairs.
use Rattle.std.specs.Prelude.{◌≡◌, ◌⊎◌, ℕ, suc, ◌<◌, ◌&&◌, cond, nat_eq, nat_lt, List, [], ◌∷◌, length, slice_index_or}
use Rattle.std.specs.Prelude.{Option, Some, None, Result, Ok, Err}
use Rattle.std.specs.declared.vec.Vec.{Vec}
use Rattle.std.specs.declared.alloc.Global.{Global}
use Rattle.line_instance.specs.declared.arcs.Prec.{Prec}
use Rattle.in2_reader.specs.Contents.{Lines}
use Rattle.alb_reader.specs.Faults.{task_named, time_said, task_fault, arc_fault, AreRight, IsFirstWrong}
use Rattle.alb_reader.specs.Instance.{AllNamed, IsLeastUnnamed, times_of, arcs_of}
use Rattle.alb_reader.specs.declared.fault.AlbError.{AlbError}
use Rattle.alb_reader.specs.declared.fault.AlbError.TheVariants as errors
use Rattle.alb_reader.specs.declared.fault.AlbKind.TheVariants.{MissingTask}

-- the time that the lines give the task of this number, where one of them names it
abbrev pub given_of : ℕ → Lines → Option ℕ
given_of v [] = None
given_of v (l ∷ lines) = cond (nat_eq (task_named l.1) v) (Some (time_said l.1)) (given_of v lines)

-- each of n tasks has the time that the lines give it
pub record AreGiven (n : ℕ) (lines : Lines) (given : List (Option ℕ)) : Type 0 where
  pub many : length given ≡ n
  pub each : (i : ℕ) → i < n → slice_index_or given i None ≡ given_of (suc i) lines

-- the times that the lines give, or the first of them that is wrong
abbrev pub GivesTimes : ℕ → Lines → Result (Vec (Option ℕ) Global) AlbError → Type 0
GivesTimes n lines (Ok v) = AreRight (task_fault n) lines × AreGiven n lines v.items
GivesTimes n lines (Err errors.Memory) = Unit {0}
GivesTimes n lines (Err (errors.Fault f)) = IsFirstWrong (task_fault n) lines f.line f.kind

-- a time is given
abbrev pub IsThere : Option ℕ → Type 0
IsThere None = ⊥
IsThere (Some t) = Unit {0}

-- the first that has none
pub record IsFirstNone (given : List (Option ℕ)) (i : ℕ) : Type 0 where
  pub within : i < length given
  pub none : slice_index_or given i None ≡ None
  pub before : (j : ℕ) → j < i → IsThere (slice_index_or given j None)

-- all times, or the first task that has none
abbrev pub GivesWhole : List (Option ℕ) → ℕ → Result (Vec ℕ Global) AlbError → Type 0
GivesWhole given end (Ok v) = (length v.items ≡ length given)
    × ((i : ℕ) → i < length given → slice_index_or given i None ≡ Some (slice_index_or v.items i 0))
GivesWhole given end (Err errors.Memory) = Unit {0}
GivesWhole given end (Err (errors.Fault f)) = (i : ℕ) × IsFirstNone given i × (f.line ≡ end) × (f.kind ≡ MissingTask i)

-- The times of n tasks; or the first line of task times that is wrong, or the least task that has no time.
abbrev pub IsTimesRead : ℕ → Lines → ℕ → Result (Vec ℕ Global) AlbError → Type 0
IsTimesRead n lines end (Ok v) = AreRight (task_fault n) lines × AllNamed n lines × (v.items ≡ times_of n lines)
IsTimesRead n lines end (Err errors.Memory) = Unit {0}
IsTimesRead n lines end (Err (errors.Fault f)) =
    IsFirstWrong (task_fault n) lines f.line f.kind
    ⊎ ((i : ℕ) × AreRight (task_fault n) lines × IsLeastUnnamed n lines i × (f.line ≡ end) × (f.kind ≡ MissingTask i))

-- the pair, where both of its members are of n tasks
abbrev pub named_arc : ℕ → Option Prec → Option Prec
named_arc n None = None
named_arc n (Some a) = cond (nat_lt a.first n && nat_lt a.«then» n) (Some a) None

-- The pairs, each of two of n tasks, or the first that isn't.
abbrev pub IsArcsRead : ℕ → Lines → Result (Vec Prec Global) AlbError → Type 0
IsArcsRead n lines (Ok v) = AreRight (arc_fault n) lines × (v.items ≡ arcs_of lines)
IsArcsRead n lines (Err errors.Memory) = Unit {0}
IsArcsRead n lines (Err (errors.Fault f)) = IsFirstWrong (arc_fault n) lines f.line f.kind
