use Rattle.std.proofs.Common.{◌≡◌, ◌≤◌, ◌+◌, ◌*◌, drop, get_or}
use Rattle.utility_work.specs.Utility.{utility_from}
use Rattle.utility_work.proofs.work.utility_at.Given as goal

abbrev pub invariant-loop-k : goal.invariant-loop-k
invariant-loop-k l = record {
  told : l.sum + utility_from l.reach l.interval (λ m. get_or l.works m 0) l.start (drop l.k l.sequence)
      ≡ utility_from l.reach l.interval (λ m. get_or l.works m 0) 0 l.sequence;
  limit : l.sum ≤ 1024000000000 * l.k;
  start : l.start ≤ l.reach;
}
