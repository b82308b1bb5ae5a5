use Rattle.std.proofs.Common.{◌≡◌, ◌≤◌, length, map, take, vec_capacity}
use Rattle.steal_pool.specs.Hands.{fresh_port}
use Rattle.steal_pool.specs.Calls.{change_below}
use Rattle.steal_pool.specs.Opening.{left_hand}
use Rattle.steal_pool.proofs.opening.ports_of.Given as goal

abbrev pub invariant-loop-k : goal.invariant-loop-k
invariant-loop-k l = record {
  below : l.k ≤ length l.deques.items;
  count : length l.ports.items ≡ l.k;
  hands : l.hands.items ≡ change_below left_hand l.k l.fn.hands.items;
  ports : l.ports.items ≡ map fresh_port (take l.k l.deques.items);
  room : length l.deques.items ≤ vec_capacity l.ports;
}
