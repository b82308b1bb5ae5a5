use Rattle.std.proofs.Common.{◌≡◌, length}
use Rattle.steal_pool.specs.Hands.{AreNumbered}
use Rattle.tests_share.proofs.pools.pieces.Given as goal

abbrev pub invariant-loop-number : goal.invariant-loop-number
invariant-loop-number l = record {
  count : length l.pieces.items ≡ l.number;
  numbered : AreNumbered l.pieces.items;
}
