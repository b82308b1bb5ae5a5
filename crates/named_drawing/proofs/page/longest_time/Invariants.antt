use Rattle.std.proofs.Common.{◌≡◌}
use Rattle.line_instance.specs.Line.{time}
use Rattle.line_rules.specs.Bounds.{greatest_below}
use Rattle.named_drawing.proofs.page.longest_time.Given as goal

abbrev pub invariant-loop-task : goal.invariant-loop-task
invariant-loop-task l = l.longest ≡ greatest_below l.task (time l.inst)
