use Rattle.std.proofs.Common.{◌≡◌, ◌≤◌, length}
use Rattle.steal_pool.specs.Closing.{AreCounted}
use Rattle.steal_pool.proofs.closing.count_all.Given as goal

abbrev pub invariant-loop-k : goal.invariant-loop-k
invariant-loop-k l = record {
  below : l.k ≤ length l.deques.items;
  same : l.hands.items ≡ l.fn.hands.items;
  counted : AreCounted l.fn.hands.items l.k l.put l.left;
}
