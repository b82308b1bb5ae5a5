use Rattle.std.proofs.Common.{arith}
use Rattle.line_drawing.proofs.StationSums.{one_more}
use Rattle.line_drawing.proofs.figures.sum_at.Goals as goal

pub loop-task-preserved : goal.loop-task-preserved
loop-task-preserved c = record {
  sum =
      one_more c.args.inst.now c.args.places.now c.args.station c.loop-task.task c.loop-task.sum c.time_at-sum.result
      c.tasks-task-end.ensures.line.small (omega (arith, c.loop-task-test.true, c.tasks-task-end.ensures.tasks))
      c.loop-task.invariant.sum c.time_at-sum.ensures.time;
  limit = omega (arith, c.loop-task.invariant.limit, c.time_at-sum.ensures.limit);
}
