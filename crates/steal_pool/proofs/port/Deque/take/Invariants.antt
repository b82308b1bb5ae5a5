use Rattle.std.proofs.Common.{◌≡◌}
use Rattle.steal_pool.proofs.port.Deque.take.Given as goal

abbrev pub invariant-loop : goal.invariant-loop
invariant-loop g l = l.port ≡ l.fn.port
