use Rattle.first_fit.proofs.Joins.{turn}
use Rattle.first_fit.proofs.pick.pick.Goals as goal

pub loop-task-preserved : goal.loop-task-preserved
loop-task-preserved c = turn c.args.kind c.args.inst.now c.args.filling.now c.loop-task.task c.loop-task.best
    c.better-best.result c.better-best-in-loop-task.result c.loop-task.invariant c.better-best.ensures
    c.better-best-in-loop-task.ensures
