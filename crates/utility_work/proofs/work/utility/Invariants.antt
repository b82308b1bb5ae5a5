use Rattle.std.proofs.Common.{◌≡◌, ◌<◌, ◌+◌, ℕ, length, get_or}
use Rattle.utility_work.specs.Utility.{station_utility}
use Rattle.utility_work.proofs.work.utility.Given as goal

abbrev pub invariant-loop-k : goal.invariant-loop-k
invariant-loop-k l = record {
  long : length l.per ≡ l.balance.stations;
  each : (k : ℕ) → k < l.k → get_or l.per k 0 ≡ station_utility l.mix l.balance.place l.sequence l.interval
      (get_or l.lengths k 0) (k + 1);
}
