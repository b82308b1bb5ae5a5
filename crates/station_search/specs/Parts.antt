-- Loads that part all tasks, and the places that they give them.
use Rattle.std.specs.Prelude.{◌≡◌, ℕ, suc, List, slice_get, Some}
use Rattle.line_instance.specs.Truths.{In}
use Rattle.line_instance.specs.Line.{Line}
use Rattle.line_rules.specs.Balance.{all_tasks}
use Rattle.line_rules.specs.Loads.{taken}
use Rattle.line_rules.specs.Seats.{side_of}
use Rattle.line_rules.specs.declared.types.LineKind.{LineKind}
use Rattle.line_rules.specs.declared.types.Load.{Load}
use Rattle.line_rules.specs.declared.types.Seatplace.{Seatplace}

-- no task is in two of the loads
abbrev pub IsOnce : List Load → Type 0
IsOnce loads =
    (j k : ℕ) (a b : Load) (i : ℕ) → slice_get loads j ≡ Some a → slice_get loads k ≡ Some b → In (taken a) i
    → In (taken b) i
    → j ≡ k

-- The loads part all tasks: each task is in a load, what is in a load is a task, and no task is in two.
pub record AreParts (line : Line) (loads : List Load) : Type 0 where
  pub each : (i : ℕ) → In (all_tasks line) i → (k : ℕ) × (l : Load) × ((slice_get loads k ≡ Some l) × In (taken l) i)
  pub within : (k : ℕ) (l : Load) (i : ℕ) → slice_get loads k ≡ Some l → In (taken l) i → In (all_tasks line) i
  pub once : IsOnce loads

-- the place is that of the task, where a load has it: the number of that load, counted from 1, and the side of the
-- task's part
abbrev pub IsPlaceOf : LineKind → List Load → ℕ → Seatplace → Type 0
IsPlaceOf kind loads i place =
    (k : ℕ) (l : Load) → slice_get loads k ≡ Some l → In (taken l) i
    → place ≡ record { station = suc k; side = side_of kind l i }
