use Rattle.std.proofs.Common.{◌≡◌, ◌∙◌, ap, length, sym, subst, arith, List, ℕ}
use Rattle.task_names.specs.TaskNames.{AreDistinct}
use Rattle.task_names.proofs.NumberNames.{many, next_number, numbers_distinct}
use Rattle.task_names.proofs.name_list.numbers.Goals as goal

pub loop-task-preserved : goal.loop-task-preserved
loop-task-preserved c =
    c.in_ok-push.ensures.ok
    ∙ next_number c.loop-task.names c.in_ok-number_name.field-0 c.loop-task.task c.loop-task.invariant
    c.in_ok-number_name.ensures

pub returns-clause-distinct : goal.returns-clause-distinct
returns-clause-distinct c =
    subst AreDistinct (sym c.loop-task.invariant) (numbers_distinct c.loop-task.task (omega arith))

pub returns-clause-many : goal.returns-clause-many
returns-clause-many c =
    let end : c.loop-task.task ≡ c.args.tasks = omega arith in
    ap (λ (names : List (List ℕ)). length names) c.loop-task.invariant ∙ many 1 c.loop-task.task ∙ end
