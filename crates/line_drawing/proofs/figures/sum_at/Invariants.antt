use Rattle.std.proofs.Common.{◌≡◌, ◌≤◌, ◌*◌, take}
use Rattle.line_instance.specs.Sums.{sum_where}
use Rattle.line_rules.proofs.Stations.{at_station}
use Rattle.line_drawing.proofs.figures.sum_at.Given as goal

abbrev pub invariant-loop-task : goal.invariant-loop-task
invariant-loop-task l = record {
  sum : l.sum ≡ sum_where (at_station l.inst l.places l.station) (take l.task l.inst.times);
  limit : l.sum ≤ 200000000000000 * l.task;
}
