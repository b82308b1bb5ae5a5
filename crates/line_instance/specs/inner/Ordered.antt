-- What ordering the tasks answers.
use Rattle.std.specs.Prelude.{List, Bool}
use Rattle.line_instance.specs.inner.Inside.{IsWhole, IsStuck}
use Rattle.line_instance.specs.declared.order.Ordered.{Ordered}
use Rattle.line_instance.specs.declared.order.Ordered.TheVariants.{Whole, Stuck}

-- an order of all tasks, or a set of placed tasks after which no task is free
abbrev pub IsOrdered : List (List Bool) → Ordered → Type 0
IsOrdered direct (Whole order) = IsWhole direct order.items
IsOrdered direct (Stuck placed) = IsStuck direct placed
