use Rattle.std.proofs.Common.{◌≡◌, ◌≤◌, ◌++◌, drop}
use Rattle.line_drawing.specs.Segments.{backs_of, times_of}
use Rattle.line_drawing.proofs.segments.push_backs.Given as goal

abbrev pub invariant-loop-task : goal.invariant-loop-task
invariant-loop-task l = record {
  left : l.left ≡ times_of l.inst (drop l.task-index l.ranked);
  fits : l.left ≤ l.cycle;
  segments : l.segments.items ++ backs_of l.inst l.cycle (drop l.task-index l.ranked) ≡ l.fn.segments.items
      ++ backs_of l.inst l.cycle l.ranked;
}
