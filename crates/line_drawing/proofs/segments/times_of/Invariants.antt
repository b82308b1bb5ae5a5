use Rattle.std.proofs.Common.{◌≡◌, ◌+◌, drop}
use Rattle.line_drawing.specs.Segments.{times_of}
use Rattle.line_drawing.proofs.segments.times_of.Given as goal

abbrev pub invariant-loop-task : goal.invariant-loop-task
invariant-loop-task l = l.sum + times_of l.inst (drop l.task-index l.ranked) ≡ times_of l.inst l.ranked
