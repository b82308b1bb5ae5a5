use Rattle.balance_plan.proofs.WholePlan.{plan_true}
use Rattle.balance_plan.proofs.plan.plan_text.Goals as goal

pub returns-clause-true_plan : goal.returns-clause-true_plan
returns-clause-true_plan c =
    plan_true c.args.inst.now c.args.cycle c.args.balance.now c.tasks-tasks.ensures.line c.tasks-tasks.ensures.ranked
    c.requires.right
