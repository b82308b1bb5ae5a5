-- What making an instance answers.
use Rattle.std.specs.Prelude.{◌≡◌, ℕ, ◌<◌, ◌≤◌, List, [], length, slice_index_or}
use Rattle.line_instance.specs.Line.{Line, IsLine, tasks, Apart}
use Rattle.line_instance.specs.Walks.{IsRow, arc_at, Names, AreArcs, IsRing}
use Rattle.line_instance.specs.Ranks.{AreRanks}
use Rattle.line_instance.specs.declared.arcs.Prec.{Prec}
use Rattle.line_instance.specs.declared.making.Made.{Made}
use Rattle.line_instance.specs.declared.making.Made.TheVariants.{Good, NoTasks, TooManyTasks, BadTime, BadArc, Cycle}
use Rattle.line_instance.specs.declared.making.Made.TheVariants.{NoMemory}

-- 1 to 1,024 times, each within the limit
pub record AreTimes (times : List ℕ) : Type 0 where
  pub some : 0 < length times
  pub few : length times ≤ 1024
  pub limit : (i : ℕ) → slice_index_or times i 0 ≤ 200000000000000

-- i is the least task whose time is above the limit
pub record IsFirstLong (times : List ℕ) (i : ℕ) : Type 0 where
  pub task : i < length times
  pub above : 200000000000000 < slice_index_or times i 0
  pub first : (k : ℕ) → k < i → slice_index_or times k 0 ≤ 200000000000000

-- k is the least place of an arc that names something other than a task
pub record IsFirstBad (n : ℕ) (arcs : List Prec) (k : ℕ) : Type 0 where
  pub place : k < length arcs
  pub bad : Names n (arc_at arcs k) → ⊥
  pub first : (m : ℕ) → m < k → Names n (arc_at arcs m)

-- the instance of these times and arcs: a task is before another where a walk of arcs leads from it to the other, and
-- no tasks are apart
pub record IsInstanceOf (given : List ℕ) (arcs : List Prec) (line : Line) : Type 0 where
  pub right : AreTimes given
  pub named : AreArcs (length given) arcs
  pub times : line.times ≡ given
  pub before : (t : ℕ) → t < tasks line → IsRow arcs (slice_index_or line.before t []) t
  pub apart : (i j : ℕ) → Apart line i j → ⊥
  pub ranks : AreRanks line
  pub line_is : IsLine line

-- Each answer with its cause. The refusals come in this order: no time, too many, a time above the limit, an arc that
-- names no task, a cycle. Out of memory comes where none of the first four does.
abbrev pub IsMade : List ℕ → List Prec → Made → Type 0
IsMade times arcs (Good line) = IsInstanceOf times arcs line
IsMade times arcs NoTasks = times ≡ []
IsMade times arcs (TooManyTasks n) = (n ≡ length times) × (1024 < n)
IsMade times arcs (BadTime i) = (0 < length times) × (length times ≤ 1024) × IsFirstLong times i
IsMade times arcs (BadArc k) = AreTimes times × IsFirstBad (length times) arcs k
IsMade times arcs (Cycle ring) = AreTimes times × AreArcs (length times) arcs × IsRing arcs ring
IsMade times arcs NoMemory = AreTimes times × AreArcs (length times) arcs
