-- What a walk keeps of one side of the load that it has come to.
use Rattle.std.specs.Prelude.{ℕ, ◌<◌, ◌⊎◌, ◌↔◌, Bool, List}
use Rattle.line_instance.specs.Truths.{In}
use Rattle.line_instance.specs.Line.{Line, IsTaskSet, tasks}
use Rattle.line_rules.specs.declared.types.Side.{Side}
use Rattle.line_rules.specs.Sides.{AreReady, task_at}

-- the places are those of the tasks that stand at the side or are free to
pub record AreMarked (line : Line) (s : Side) (here free places : List Bool) : Type 0 where
  pub is : (p : ℕ) → In places p ↔ (p < tasks line) × (In here (task_at line s p) ⊎ In free (task_at line s p))

-- some tasks at a side, with the tasks of R that are ready for it, and the places of both
pub record IsEnd (line : Line) (s : Side) (R here free places : List Bool) : Type 0 where
  pub set : IsTaskSet line here
  pub ready : AreReady line s R here free
  pub marked : AreMarked line s here free places
