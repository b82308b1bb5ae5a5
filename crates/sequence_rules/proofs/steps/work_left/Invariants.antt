use Rattle.std.proofs.Common.{◌≡◌, ◌≤◌, ◌*◌, take, sum}
use Rattle.sequence_rules.specs.States.{sum_over, unit_work}
use Rattle.sequence_rules.proofs.steps.work_left.Given as goal

abbrev pub invariant-loop-m : goal.invariant-loop-m
invariant-loop-m l = record {
  work : l.work ≡ sum_over (λ m units. units * unit_work l.times m l.station) (take l.m l.rem);
  limit : l.work ≤ 1024000000000 * sum (take l.m l.rem);
}
