use Rattle.std.proofs.Common.{◌-◌, ◌≤◌}
use Rattle.sequence_walk.specs.Walks.{HasSteps, HaveInAll}
use Rattle.sequence_walk.proofs.walk.next_layer.Given as goal

abbrev pub invariant-loop-from : goal.invariant-loop-from
invariant-loop-from l = record {
  fewer : l.units ≤ l.fn.units;
  steps : HaveInAll (HasSteps l.table.times l.layer) l.from (l.fn.units - l.units);
}
