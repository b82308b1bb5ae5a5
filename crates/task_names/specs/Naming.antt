-- What the tasks of a line are called: by their numbers, or by names of their own (own).
use Rattle.std.specs.Prelude.{◌≡◌, ℕ, ◌+◌, List, length, Option, Some, None, decimal}
use Rattle.task_names.specs.TaskNames.{AreDistinct, name_at, numbers}
use Rattle.task_names.specs.declared.naming.Naming.{Naming}
use Rattle.task_names.specs.declared.naming.Naming.TheVariants.{Numbered, Named}

-- what a task, counted from 0, is called
abbrev pub called : Naming → ℕ → List ℕ
called Numbered i = decimal (i + 1)
called (Named names) i = name_at names i

-- the naming of names, where there are some
abbrev pub naming_by : Option (List (List ℕ)) → Naming
naming_by None = Numbered
naming_by (Some names) = Named names

-- the names of n tasks: their own, or their numbers
abbrev pub names_for : Naming → ℕ → List (List ℕ)
names_for Numbered n = numbers n
names_for (Named names) n = names

-- names fit so many tasks: there is one for each, and no two are the same
abbrev pub FitTasks : Naming → ℕ → Type 0
FitTasks Numbered n = Unit {0}
FitTasks (Named names) n = (length names ≡ n) × AreDistinct names
