-- The rank: the topological order that always takes the free task with the smallest number.
use Rattle.std.specs.Prelude.{◌≡◌, ℕ, ◌<◌, ◌≤◌, length}
use Rattle.line_instance.specs.Line.{Line, tasks, at_rank, Before}

-- a rank below k has the task t
abbrev pub IsPlaced : Line → ℕ → ℕ → Type 0
IsPlaced line k t = (m : ℕ) × (m < k) × (at_rank line m ≡ t)

-- t is free at rank k: it is a task, no rank below k has it, and ranks below k have all that is before it
pub record IsFree (line : Line) (k t : ℕ) : Type 0 where
  pub task : t < tasks line
  pub new : IsPlaced line k t → ⊥
  pub ready : (i : ℕ) → Before line i t → IsPlaced line k i

-- each rank has the least task that is free there (Scholl)
pub record AreRanks (line : Line) : Type 0 where
  pub many : length line.order ≡ tasks line
  pub free : (k : ℕ) → k < tasks line → IsFree line k (at_rank line k)
  pub least : (k t : ℕ) → k < tasks line → IsFree line k t → at_rank line k ≤ t
