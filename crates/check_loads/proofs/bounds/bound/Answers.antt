use Rattle.std.proofs.Common.{arith}
use Rattle.line_rules.proofs.BoundCases.{most_bound}
use Rattle.check_loads.proofs.bounds.bound.Goals as goal

pub overflow_add-least : goal.overflow_add-least
overflow_add-least c = omega (
  arith,
  c.climb.invariant,
  most_bound c.args.kind c.args.inst.now c.args.cycle
      c.args.set.now c.tasks-tasks.ensures.line c.tasks-tasks.ensures.ranked c.requires.set c.requires.some,
)
