use Rattle.std.proofs.Common.{rules}
use Rattle.steal_pool.proofs.DequeSteps.{pushes}
use Rattle.steal_pool.proofs.TallySteps.{announces}
use Rattle.steal_pool.proofs.port.Deque.put.Goals as goal

pub fetch_add-requires : goal.fetch_add-requires
fetch_add-requires c =
    let seat = c.home.inside.seat in (
      search rules,
      search rules,
      announces c.self.inside.tally.shared.table_id.slots seat.id seat.me.0 seat.me.1
          (search rules) (search rules) (search rules),
    )

pub push_as-requires-clause-pushes : goal.push_as-requires-clause-pushes
push_as-requires-clause-pushes c = pushes _ _ _ (search rules)
