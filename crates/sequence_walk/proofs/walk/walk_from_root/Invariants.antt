use Rattle.std.proofs.Common.{◌≡◌, ◌+◌, ◌-◌, ◌≤◌, length, vec_len}
use Rattle.sequence_walk.specs.Walks.{units_of, LayerAtHasSteps, HaveInAll}
use Rattle.sequence_walk.proofs.walk.walk_from_root.Given as goal

abbrev pub invariant-loop-left : goal.invariant-loop-left
invariant-loop-left l = record {
  layers : vec_len l.layers + l.left ≡ units_of l.pass;
  fewer : l.units ≤ l.fn.units;
  steps : HaveInAll (LayerAtHasSteps l.table.times l.layers.items) (length l.layers.items) (l.fn.units - l.units);
}
