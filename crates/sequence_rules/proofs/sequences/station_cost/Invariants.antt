use Rattle.std.proofs.Common.{◌≡◌, ◌≤◌, ◌+◌, ◌*◌, drop}
use Rattle.utility_work.specs.Utility.{utility_from}
use Rattle.sequence_rules.specs.States.{unit_work}
use Rattle.sequence_rules.proofs.sequences.station_cost.Given as goal

abbrev pub invariant-loop-k : goal.invariant-loop-k
invariant-loop-k l = record {
  told : l.sum + utility_from l.reach l.interval (λ m. unit_work l.times m l.station) l.start (drop l.k l.sequence)
      ≡ utility_from l.reach l.interval (λ m. unit_work l.times m l.station) 0 l.sequence;
  limit : l.sum ≤ 1024000000000 * l.k;
  start : l.start ≤ l.reach;
}
