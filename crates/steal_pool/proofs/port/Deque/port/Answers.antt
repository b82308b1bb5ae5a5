use Rattle.std.proofs.Common.{rules}
use Rattle.steal_pool.proofs.DequeSteps.{forks}
use Rattle.steal_pool.proofs.TallySteps.{splits}
use Rattle.steal_pool.proofs.port.Deque.port.Goals as goal

pub another-pass-requires : goal.another-pass-requires
another-pass-requires c = forks _ _ (search rules)

pub split_seat-seat-requires : goal.split_seat-seat-requires
split_seat-seat-requires c = (search rules, search rules, splits _ _ (search rules))
