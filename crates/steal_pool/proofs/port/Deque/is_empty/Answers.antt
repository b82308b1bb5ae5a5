use Rattle.std.proofs.Common.{rules}
use Rattle.steal_pool.proofs.TallySteps.{looks}
use Rattle.steal_pool.proofs.port.Deque.is_empty.Goals as goal

pub load-requires : goal.load-requires
load-requires c =
    let seat = c.port.inside.seat in
    (search rules, search rules, looks c.self.inside.tally.shared.table_id.slots seat.id seat.me.0 seat.me.1)
