use Rattle.std.proofs.Common.{◌≡◌, map, take}
use Rattle.task_names.specs.TaskNames.{name_at}
use Rattle.task_table.proofs.table.ring_names.Given as goal

abbrev pub invariant-loop-k : goal.invariant-loop-k
invariant-loop-k l = l.found ≡ map (name_at l.names) (take l.k l.ring)
