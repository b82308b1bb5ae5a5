use Rattle.std.proofs.Common.{◌<◌, [], arith, length}
use Rattle.combined_graph.specs.Mixes.{model_at}
use Rattle.utility_work.proofs.WorkSteps.{task_added}
use Rattle.utility_work.proofs.work.work_of.Goals as goal

pub loop-task-preserved : goal.loop-task-preserved
loop-task-preserved c =
    let many = (c.tasks-task-end.ensures.mix.draft.each c.args.model
    (record { name = []; demand = 0; times = []; arcs = [] }) c.requires.model).many in
    let within : c.loop-task.task < length (model_at c.args.mix.now.models c.args.model).times =
    omega (arith, many, c.loop-task-test.true, c.tasks-task-end.ensures.tasks) in
    record {
      sum = task_added c.args.balance.now.place (model_at c.args.mix.now.models c.args.model).times c.args.station
          c.loop-task.task c.loop-task.work c.time_at-work.result within c.loop-task.invariant.sum
          c.time_at-work.ensures.time;
      limit = omega (arith, c.loop-task.invariant.limit, c.time_at-work.ensures.limit);
    }
