-- A question that loads are walked for.
use Rattle.std.specs.Prelude.{◌≡◌, ◌-◌, ◌*◌}
use Rattle.line_instance.specs.Line.{Line, IsTaskSet}
use Rattle.line_rules.specs.Ranges.{IsCycle}
use Rattle.line_rules.specs.Times.{AreTimes}
use Rattle.check_loads.specs.declared.questions.Question.{Question}

-- a set of tasks and a cycle, with the times of the set and the time of all its stations but one
pub record IsPosed (line : Line) (q : Question) : Type 0 where
  pub set : IsTaskSet line q.set
  pub cycle : IsCycle q.cycle
  pub times : AreTimes line q.set q.times.total q.times.longest
  pub room : q.room ≡ (q.most - 1) * q.cycle
