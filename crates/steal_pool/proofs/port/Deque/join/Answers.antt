use Rattle.std.proofs.Common.{rules}
use Rattle.steal_pool.proofs.DequeSteps.{merges}
use Rattle.steal_pool.proofs.TallySteps.{joins}
use Rattle.steal_pool.proofs.port.Deque.join.Goals as goal

pub absorb-requires-clause-rule : goal.absorb-requires-clause-rule
absorb-requires-clause-rule c = merges _ _ _ _

pub join_seat-requires : goal.join_seat-requires
join_seat-requires c = (search rules, search rules, search rules, search rules, joins _ _ _ _)
