use Rattle.std.proofs.Common.{◌≡◌, ◌≤◌, ◌*◌, take, replicate}
use Rattle.utility_work.specs.Utility.{utility_from}
use Rattle.sequence_rules.specs.States.{unit_work, sum_over}
use Rattle.sequence_rules.proofs.sequences.sequence_cost.Given as goal

abbrev pub invariant-loop-k : goal.invariant-loop-k
invariant-loop-k l = record {
  total : l.total ≡ sum_over (λ k s. utility_from l.reach l.interval (λ m. unit_work l.times m k) s l.sequence)
      (take l.k (replicate l.times.stations 0));
  limit : l.total ≤ 1024000000000000 * l.k;
}
