use Rattle.std.proofs.Common.{◌≡◌, ◌+◌, ◌++◌, drop}
use Rattle.line_drawing.specs.Segments.{fronts_from, times_of}
use Rattle.line_drawing.proofs.segments.push_fronts.Given as goal

abbrev pub invariant-loop-task : goal.invariant-loop-task
invariant-loop-task l = record {
  sum : l.sum + times_of l.inst (drop l.task-index l.ranked) ≡ times_of l.inst l.ranked;
  segments : l.segments.items ++ fronts_from l.inst l.cycle l.sum (drop l.task-index l.ranked) ≡ l.fn.segments.items
      ++ fronts_from l.inst l.cycle 0 l.ranked;
}
