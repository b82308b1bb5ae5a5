use Rattle.std.proofs.Common.{◌≡◌, ◌≤◌, ◌*◌, ◌+◌, ◌-◌, take, sum}
use Rattle.sequence_rules.specs.States.{sum_over, work_left}
use Rattle.sequence_rules.proofs.steps.state_bound.Given as goal

abbrev pub invariant-loop-k : goal.invariant-loop-k
invariant-loop-k l = record {
  bound : l.bound ≡ sum_over (λ k s. s + work_left l.times l.rem k - l.reach - (sum l.rem - 1) * l.interval)
      (take l.k l.starts);
  limit : l.bound ≤ 16385000000000000 * l.k;
}
