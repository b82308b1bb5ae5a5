use Rattle.std.proofs.Common.{◌≡◌}
use Rattle.task_names.specs.TaskNames.{numbers}
use Rattle.task_names.proofs.name_list.numbers.Given as goal

abbrev pub invariant-loop-task : goal.invariant-loop-task
invariant-loop-task l = l.names ≡ numbers l.task
