use Rattle.std.proofs.Common.{rules}
use Rattle.steal_pool.proofs.DequeSteps.{takes}
use Rattle.steal_pool.proofs.TallySteps.{reports_one}
use Rattle.steal_pool.proofs.port.Deque.try_take.Goals as goal

pub steal_as-requires-clause-takes : goal.steal_as-requires-clause-takes
steal_as-requires-clause-takes c = takes _ _ (search rules)

pub fetch_sub-requires : goal.fetch_sub-requires
fetch_sub-requires c =
    let seat = c.port.inside.seat in (
      search rules,
      search rules,
      reports_one c.self.inside.tally.shared.table_id.slots seat.id seat.me.0 seat.me.1
          (search rules),
    )
