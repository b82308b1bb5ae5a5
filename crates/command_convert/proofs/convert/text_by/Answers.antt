use Rattle.std.proofs.Common.{◌∙◌, sym, subst, ℕ}
use Rattle.task_names.specs.Naming.{FitTasks}
use Rattle.command_convert.proofs.convert.text_by.Goals as goal

pub text_in-requires-clause-many : goal.text_in-requires-clause-many
text_in-requires-clause-many c =
    let F : ℕ → Type 0 = FitTasks c.args.naming in
    (c.in_ok-names.ensures.fit (subst F (sym c.tasks.ensures.tasks) c.requires.names)).0 ∙ c.tasks.ensures.tasks
