use Rattle.std.proofs.Common.{◌≡◌, take}
use Rattle.task_names.proofs.name_list.Names.copy.Given as goal

abbrev pub invariant-loop-task : goal.invariant-loop-task
invariant-loop-task l = l.names ≡ take l.task l.self
