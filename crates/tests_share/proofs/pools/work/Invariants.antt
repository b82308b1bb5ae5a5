use Rattle.std.proofs.Common.{◌≡◌}
use Rattle.steal_pool.specs.Hands.{IsHandOf}
use Rattle.tests_share.proofs.pools.work.Given as goal

abbrev pub invariant-loop : goal.invariant-loop
invariant-loop g l = record { hand : IsHandOf l.pool l.hand; name : l.hand.name ≡ l.fn.hand.name }
