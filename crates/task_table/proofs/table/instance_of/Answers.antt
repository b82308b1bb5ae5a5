use Rattle.std.proofs.Common.{arith, length}
use Rattle.task_table.proofs.TableFacts.{ring_below}
use Rattle.task_table.proofs.table.instance_of.Goals as goal

pub ring_names-requires : goal.ring_names-requires
ring_names-requires c = λ k h. omega (
  arith,
  ring_below c.deref.result.now (length c.args.times.items) c.in-Cycle.ring c.in-Cycle.ensures.1 c.in-Cycle.ensures.2 k
      h,
  c.requires.many,
)
