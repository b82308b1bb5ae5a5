use Rattle.std.proofs.Common.{◌∙◌, sym, subst, ℕ}
use Rattle.task_names.specs.Naming.{FitTasks}
use Rattle.command_draw.proofs.plan.plan_by.Goals as goal

pub planned-requires-clause-many : goal.planned-requires-clause-many
planned-requires-clause-many c =
    let F : ℕ → Type 0 = FitTasks c.args.shown.line.naming in
    (c.in_ok-names.ensures.fit (subst F (sym c.tasks.ensures.tasks) c.requires.names)).0 ∙ c.tasks.ensures.tasks
