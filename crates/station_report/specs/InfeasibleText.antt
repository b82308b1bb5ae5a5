-- The printed line about a task that no station can hold.
use Rattle.std.specs.Prelude.{ℕ, List, ◌++◌, codes, decimal}
use Rattle.task_names.specs.Naming.{called}
use Rattle.task_names.specs.declared.naming.Naming.{Naming}

-- what the task is called, and its time
abbrev pub infeasible_text : Naming → ℕ → ℕ → List ℕ
infeasible_text naming task time = codes "infeasible: task " ++ called naming task ++ codes " time " ++ decimal time
    ++ codes "\n"
