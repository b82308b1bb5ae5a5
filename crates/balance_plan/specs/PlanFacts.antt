-- What is true of a plan: when the tasks of each station are done.
use Rattle.std.specs.Prelude.{◌≡◌, ℕ, ◌+◌, ◌<◌, ◌≤◌, List, slice_get, Some}
use Rattle.line_instance.specs.Line.{Line, Before, tasks, time}
use Rattle.line_rules.specs.Balance.{IsRight, seat}
use Rattle.line_rules.specs.declared.types.LineKind.{LineKind}
use Rattle.line_rules.specs.declared.types.Side.TheVariants.{Front, Back}
use Rattle.line_rules.specs.declared.types.Seatplace.{Seatplace}
use Rattle.line_rules.specs.declared.types.Balance.{Balance as Assignment}
use Rattle.balance_plan.specs.Plan.{Turn, turns_of}

-- the turn is of a task of the line, at its station and on its side, takes the task's time, and lies within the cycle
pub record IsOfTask (line : Line) (cycle : ℕ) (places : List Seatplace) (t : Turn) : Type 0 where
  pub task : t.task < tasks line
  pub station : t.station ≡ (seat places t.task).station
  pub side : t.side ≡ (seat places t.task).side
  pub lasts : t.finish ≡ t.start + time line t.task
  pub within : t.finish ≤ cycle

-- Of two turns at one station, the earlier one ends where or before the later one begins; so no two overlap. On one
-- side neighbours meet. The first in front begins with the cycle, and the last at the back ends with it.
pub record AreInOrder (cycle : ℕ) (turns : List Turn) : Type 0 where
  pub clear : (p q : ℕ) (s t : Turn) → slice_get turns p ≡ Some s → slice_get turns q ≡ Some t → p < q
      → s.station ≡ t.station → s.finish ≤ t.start
  pub meet : (p : ℕ) (s t : Turn) → slice_get turns p ≡ Some s → slice_get turns (p + 1) ≡ Some t
      → s.station ≡ t.station → s.side ≡ t.side → s.finish ≡ t.start
  pub stations : (p q : ℕ) (s t : Turn) → slice_get turns p ≡ Some s → slice_get turns q ≡ Some t → p < q
      → s.station ≤ t.station
  pub front_begins : (q : ℕ) (t : Turn) → slice_get turns q ≡ Some t → t.side ≡ Front
      → ((p : ℕ) (s : Turn) → slice_get turns p ≡ Some s → p < q → s.station < t.station) → t.start ≡ 0
  pub back_ends : (p : ℕ) (s : Turn) → slice_get turns p ≡ Some s → s.side ≡ Back
      → ((q : ℕ) (t : Turn) → slice_get turns q ≡ Some t → p < q → s.station < t.station) → s.finish ≡ cycle

-- The plan of a balance: each task has one turn, at its station and on its side, within the cycle; the turns of a
-- station are in order; and where one task is before another at one station, its turn comes first and ends where or
-- before the other's begins.
pub record IsTruePlan (line : Line) (cycle : ℕ) (b : Assignment) : Type 0 where
  pub each : (p : ℕ) (t : Turn) → slice_get (turns_of line cycle b) p ≡ Some t → IsOfTask line cycle b.place t
  pub all : (i : ℕ) → i < tasks line
      → (p : ℕ) × ((t : Turn) × (slice_get (turns_of line cycle b) p ≡ Some t) × (t.task ≡ i))
  pub once : (p q : ℕ) (s t : Turn) → slice_get (turns_of line cycle b) p ≡ Some s
      → slice_get (turns_of line cycle b) q ≡ Some t → s.task ≡ t.task → p ≡ q
  pub ordered : AreInOrder cycle (turns_of line cycle b)
  pub precedence : (p q : ℕ) (s t : Turn) → slice_get (turns_of line cycle b) p ≡ Some s
      → slice_get (turns_of line cycle b) q ≡ Some t → s.station ≡ t.station → Before line s.task t.task → p < q

-- the balance is right, on a line of some kind
abbrev pub IsRightSomehow : Line → ℕ → Assignment → Type 0
IsRightSomehow line cycle b = (kind : LineKind) × IsRight kind line cycle b
