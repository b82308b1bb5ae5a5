use Rattle.std.proofs.Common.{◌≡◌}
use Rattle.steal_pool.specs.Calls.{looked_before}
use Rattle.steal_pool.proofs.pool.Pool.take.Given as goal

abbrev pub invariant-loop-k : goal.invariant-loop-k
invariant-loop-k g l = l.hand ≡ looked_before l.k l.fn.hand
