use Rattle.std.proofs.Common.{◌≤◌, length}
use Rattle.steal_pool.specs.Closing.{AreGathered}
use Rattle.steal_pool.proofs.closing.join_all.Given as goal

abbrev pub invariant-loop-j : goal.invariant-loop-j
invariant-loop-j l = record {
  below : l.j ≤ length l.deques.items;
  gathered : AreGathered l.deques.items l.fn.hands.items l.j l.hands.items;
}
