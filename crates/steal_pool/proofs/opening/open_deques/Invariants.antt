use Rattle.std.proofs.Common.{◌≡◌, ◌≤◌, length, vec_capacity}
use Rattle.steal_pool.specs.Opening.{bare_hands}
use Rattle.steal_pool.proofs.opening.open_deques.Given as goal

abbrev pub invariant-loop-name : goal.invariant-loop-name
invariant-loop-name l = record {
  below : l.name ≤ l.count;
  count : length l.deques.items ≡ l.name;
  also : length l.hands.items ≡ l.name;
  hands : l.hands.items ≡ bare_hands l.deques.items;
  room : l.count ≤ vec_capacity l.deques;
  seats : l.count ≤ vec_capacity l.hands;
}
