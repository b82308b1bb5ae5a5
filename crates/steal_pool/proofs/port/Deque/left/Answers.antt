use Rattle.std.proofs.Common.{rules}
use Rattle.steal_pool.proofs.DequeSteps.{learns}
use Rattle.steal_pool.proofs.TallySteps.{settles}
use Rattle.steal_pool.proofs.port.Deque.left.Goals as goal

pub load-requires : goal.load-requires
load-requires c =
    let seat = c.home.inside.seat in
    (search rules, search rules, settles c.self.inside.tally.shared.table_id.slots seat.id seat.me.0 seat.me.1)

pub len_as-requires : goal.len_as-requires
len_as-requires c = learns _ _ (search rules)
