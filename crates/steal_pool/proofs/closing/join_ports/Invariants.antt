use Rattle.std.specs.Vec.Iter.{into_iter_items}
use Rattle.steal_pool.proofs.ClosingFacts.{IsJoining}
use Rattle.steal_pool.proofs.closing.join_ports.Given as goal

abbrev pub invariant-loop-port : goal.invariant-loop-port
invariant-loop-port l = IsJoining l.fn.hands.items l.fn.ports.items (into_iter_items l.port-iterator) l.k l.hands.items
