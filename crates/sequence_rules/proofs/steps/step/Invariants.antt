use Rattle.std.proofs.Common.{◌≡◌, ◌≤◌, ◌<◌, ◌*◌, ℕ, take, length, get_or}
use Rattle.utility_work.specs.Utility.{utility_of, next_start}
use Rattle.sequence_rules.specs.States.{sum_over, unit_work}
use Rattle.sequence_rules.proofs.steps.step.Given as goal

abbrev pub invariant-loop-k : goal.invariant-loop-k
invariant-loop-k l = record {
  cost : l.cost ≡ sum_over (λ k s. utility_of s (unit_work l.times l.model k) l.reach) (take l.k l.starts);
  limit : l.cost ≤ 1025000000000 * l.k;
  wide : length l.next ≡ l.times.stations;
  next : (j : ℕ) → j < l.k → get_or l.next j 0 ≡ next_start (get_or l.starts j 0) (unit_work l.times l.model j) l.reach
      l.interval;
  within : (j : ℕ) → j < l.k → get_or l.next j 0 ≤ l.reach;
}
