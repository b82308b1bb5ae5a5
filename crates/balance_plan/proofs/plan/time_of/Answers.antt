use Rattle.std.proofs.Common.{arith, refl}
use Rattle.balance_plan.specs.inner.Sides.{has_place}
use Rattle.balance_plan.proofs.SideFacts.{times_left}
use Rattle.balance_plan.proofs.plan.time_of.Goals as goal

pub loop-rank-preserved : goal.loop-rank-preserved
loop-rank-preserved c =
    let line = c.args.inst.now in
    let places = c.args.places.now in
    omega (
      arith,
      c.loop-rank.invariant,
      c.time_if_there-sum.ensures,
      times_left line (has_place places c.args.place) line.order c.loop-rank.rank
          c.at_rank-task.result (has_place places c.args.place c.at_rank-task.result)
          (omega (arith, c.loop-rank-test.true, c.tasks-rank-end.ensures.tasks, c.tasks-rank-end.ensures.ranked.many))
          c.at_rank-task.ensures.task refl,
    )
