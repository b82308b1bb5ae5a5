use Rattle.std.proofs.Common.{◌≡◌, ◌≤◌, length}
use Rattle.steal_pool.specs.Opening.{seated_below}
use Rattle.steal_pool.proofs.opening.seat_hands.Given as goal

abbrev pub invariant-loop-j : goal.invariant-loop-j
invariant-loop-j l = record {
  below : l.j ≤ length l.deques.items;
  hands : l.hands.items ≡ seated_below l.j l.deques.items;
}
